-- What a decoder has given of the bytes of a list.
use Rattle.std.specs.Prelude.{◌≡◌, ◌+◌, ◌*◌, ◌/◌, ◌%◌, ◌<◌, ◌≤◌}
use Rattle.std.specs.Prelude.{ℕ, List, length, slice_index}
use Rattle.pk_posting.specs.declared.decoder.ListDecoder.{ListDecoder}
use Rattle.pk_posting.specs.declared.fields.ListPlace.{ListPlace}
use Rattle.pk_posting.specs.Posting.{word, base, offset}
use Rattle.pk_posting.specs.Reading.{Begun, ReadTo}

-- where the list lies that is decoded
abbrev pub place_of : ListDecoder → ListPlace
place_of d = d.place

-- how many whole blocks it has, and how many of these were given
abbrev pub blocks_of : ListDecoder → ℕ
blocks_of d = d.count / 128

abbrev pub blocks_given : ListDecoder → ℕ
blocks_given d = d.given

-- how many numbers follow the blocks
abbrev pub tail_count : ListDecoder → ℕ
tail_count d = d.count % 128

-- the number that was given last, 0 before the first
abbrev pub last_given : ListDecoder → ℕ
last_given d = slice_index d.seed 3

-- The bytes hold the blocks so far, each as strictly as a list is spelled, and these are their
-- numbers: those that any list begins with which the bytes spell.
pub record HasGiven (bytes : List ℕ) (d : ListDecoder) (numbers : List ℕ) : Type 0 where
  pub count : word bytes 0 ≡ d.count
  pub row : ℕ
  pub read : ReadTo bytes (blocks_of d) d.given numbers d.seed d.at row
  pub widths : 0 < d.given % 16 → (j : ℕ) → j < 16
      → slice_index d.widths j ≡ slice_index bytes (row + j)

-- the widths of a metablock lie at one place, and those past the last of B blocks are 0; it begins
-- with block k
pub record AreWidths (bytes : List ℕ) (B k at : ℕ) (widths : List ℕ) : Type 0 where
  pub room : at + 16 ≤ length bytes
  pub same : (j : ℕ) → j < 16 → slice_index widths j ≡ slice_index bytes (at + j)
  pub zeros : (j : ℕ) → j < 16 → B ≤ k + j → slice_index bytes (at + j) ≡ 0

-- where the next block begins, and the widths of its metablock, which lie at `row`
pub record Begins (bytes : List ℕ) (d : ListDecoder) (old_row at : ℕ) (widths : List ℕ) : Type 0 where
  pub row : ℕ
  pub begun : Begun bytes (blocks_of d) d.given d.at old_row at row
  pub same : (j : ℕ) → j < 16 → slice_index widths j ≡ slice_index bytes (row + j)

-- the entry of block k, of B, says that it begins at one place and ends with the last of xs
pub record IsEntry (bytes : List ℕ) (B k at : ℕ) (xs : List ℕ) : Type 0 where
  pub offset : offset bytes k + base B ≡ at
  pub last : (c : ℕ) → c < 4 → word bytes (8 + 20 * k + 4 * c) ≡ slice_index xs (124 + c)
