-- Where lists lie in a segment, and what is read of one whatever its bytes are.
use Rattle.std.specs.Prelude.{◌≡◌, ◌≤◌, ◌+◌, ◌*◌, ℕ, List, length}
use Rattle.std.specs.List.Sorted.{IsStrictlyIncreasing}
use Rattle.pk_dict.specs.declared.entry.Entry.{Entry}
use Rattle.pk_posting.specs.declared.fields.ListPlace.{ListPlace}
use Rattle.pk_posting.specs.Parts.{LiesIn}
use Rattle.pk_segment.specs.declared.segment.Segment.{Segment}
use Rattle.pk_segment.specs.Opened.{count_of, texts_of}
use Rattle.pk_sets.specs.Sets.{union}

-- where the posting lists of a segment begin, by the lengths of its header
abbrev pub postings_of : Segment → ℕ
postings_of s = 24 + 12 * count_of s + texts_of s

-- where the list lies that an entry leads to
abbrev pub place_by : Segment → Entry → ListPlace
place_by s e = record { at = postings_of s + e.place.at; bytes = e.place.bytes }

-- a list was opened in a source of so many bytes: it lies there, and has a count at the least
abbrev pub IsOpened : ListPlace → ℕ → Type 0
IsOpened place size = LiesIn place size × (4 ≤ place.bytes)

-- The list that an entry leads to was read in a segment of so many bytes: as many numbers as the
-- entry says, which rise. They were united with others.
pub record IsUnited (segment : Segment) (entry : Entry) (size : ℕ) (old new : List ℕ) : Type 0 where
  pub list : List ℕ
  pub opened : IsOpened (place_by segment entry) size
  pub count : length list ≡ entry.frequency
  pub rising : IsStrictlyIncreasing list
  pub is : new ≡ union old list
