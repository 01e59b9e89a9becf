-- What any bytes of a segment say of the texts of its documents.
use Rattle.std.specs.Prelude.{◌≡◌, ◌≤◌, ◌<◌, ℕ, List, IfSome, Option, drop, length, slice_index, take}
use Rattle.pk_phrase.specs.declared.in_row.RowSearch.{RowSearch}
use Rattle.pk_segment.specs.declared.directory.Directory.{Directory}
use Rattle.pk_segment.specs.declared.segment.Segment.{Segment}
use Rattle.pk_segment.specs.Directory.{entries_in, field_in}
use Rattle.pk_segment.specs.Fields.{entry_field, number_at, text_in}
use Rattle.pk_segment.specs.Opened.{count_of}
use Rattle.pk_segment.specs.Texts.{TextSaid}

-- the directory, if it is in memory, is the one that stands in the bytes
abbrev pub DirectoryRead : List ℕ → Segment → Option Directory → Type 0
DirectoryRead bytes s directory =
    IfSome directory (λ d. (entries_in d ≡ count_of s)
    × ((i : ℕ) → i < count_of s → field_in d i ≡ entry_field bytes i))

-- so is that of a search
abbrev pub SearchRead : List ℕ → RowSearch → Type 0
SearchRead bytes search = DirectoryRead bytes search.segment.now search.directory.now

-- From a place on lie as many bytes as a number's text has: so an entry of the directory says that has
-- the number. They may go past the end, or be no text.
pub record LiesSaid (bytes : List ℕ) (s : Segment) (number : ℕ) (place : ℕ × ℕ) : Type 0 where
  pub at : ℕ
  pub within : at < count_of s
  pub number_is : number ≡ number_at 0 (entry_field bytes at)
  pub text_is : take place.1 (drop place.0 bytes) ≡ text_in bytes (count_of s) (entry_field bytes at)
  pub len_is : place.1 ≡ number_at 8 (entry_field bytes at)

-- the bytes have a text of the number
abbrev pub HasText : List ℕ → Segment → ℕ → Type 0
HasText bytes s number = (text : List ℕ) × TextSaid bytes s number text

-- so of each number from one place to another
abbrev pub HaveTexts : List ℕ → Segment → List ℕ → ℕ → ℕ → Type 0
HaveTexts bytes s numbers from to =
    (i : ℕ) → from ≤ i → i < to → HasText bytes s (slice_index numbers i)
