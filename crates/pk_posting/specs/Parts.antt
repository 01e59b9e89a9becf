-- A list that lies in a source, and what is read of its parts.
use Rattle.std.specs.Prelude.{◌≡◌, ◌+◌, ◌*◌, ◌-◌, ◌/◌, ◌<◌, ◌≤◌, ◌^◌, ℕ, List, length, take, drop}
use Rattle.std.specs.Prelude.{slice_index}
use Rattle.pk_posting.specs.declared.fields.ListPlace.{ListPlace}
use Rattle.pk_posting.specs.declared.fields.Shape.{Shape}
use Rattle.pk_posting.specs.declared.packed.PackedPlace.{PackedPlace}
use Rattle.pk_posting.specs.Posting.{Spells, base, offset, width, seed, tail_place, word}
use Rattle.pk_posting.specs.Limits.{longest_list}

-- the list's own bytes
unfoldable pub bytes_at : List ℕ → ListPlace → List ℕ
bytes_at content place = take place.bytes (drop place.at content)

-- the list lies within a source of so many bytes
pub record LiesIn (place : ListPlace) (size : ℕ) : Type 0 where
  pub inside : place.at + place.bytes ≤ size
  pub short : size < 2 ^ 32

-- the parts of a list lie within its bytes
pub record Fits (shape : Shape) (place : ListPlace) : Type 0 where
  pub count : shape.count ≤ longest_list
  pub blocks : shape.blocks ≡ shape.count / 128
  pub head : base shape.blocks ≤ shape.tail
  pub inside : shape.tail ≤ place.bytes

-- the bytes spell the list, and these are its parts
pub record HasShape (bytes : List ℕ) (shape : Shape) (xs : List ℕ) : Type 0 where
  pub spelled : Spells bytes xs
  pub count : shape.count ≡ length xs
  pub blocks : shape.blocks ≡ length xs / 128
  pub tail : shape.tail ≡ tail_place bytes (length xs / 128)

-- the words of the entries around block k: 0 to 3 are the last four numbers of the block before it,
-- 4 is its offset, 9 is the offset of the block after it; those below the first one read are 0
pub record EntryWords (bytes : List ℕ) (k from to : ℕ) (words : List ℕ) : Type 0 where
  pub zero : (i : ℕ) → i < from → slice_index words i ≡ 0
  pub value : (i : ℕ) → from ≤ i → i < to
      → slice_index words i ≡ word bytes (20 * k + 4 * i - 12)

-- where the packed bytes of block k lie, of B, and the four numbers before it
pub record IsPackedAt (bytes : List ℕ) (B k : ℕ) (xs : List ℕ) (packed : PackedPlace) : Type 0 where
  pub seed_is : packed.seed ≡ seed k xs
  pub at_is : packed.at ≡ base B + offset bytes k
  pub width_is : packed.width ≡ width bytes B k

-- the packed bytes lie within so many bytes
pub record IsWithin (size : ℕ) (packed : PackedPlace) : Type 0 where
  pub width : packed.width ≤ 32
  pub room : packed.at + 16 * packed.width ≤ size
