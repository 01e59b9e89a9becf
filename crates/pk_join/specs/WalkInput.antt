-- The inputs of a walk, each with its words and how far the walk has come in it.
use Rattle.std.specs.Prelude.{◌≡◌, ◌≤◌, ◌+◌, ℕ, false, List, [], map, Option, None, Some}
use Rattle.pk_disk.specs.Units.{extent_bytes, start_of}
use Rattle.pk_disk.specs.declared.units.Extent.{Extent}
use Rattle.pk_segment.specs.Ahead.{HoldsNone, HoldsOf}
use Rattle.pk_join.specs.declared.input.MergeInput.{MergeInput}
use Rattle.pk_join.specs.declared.walk_input.Input.{Input}
use Rattle.pk_join.specs.Counted.{passed_by}
use Rattle.pk_join.specs.Listed.{AreFresh, ListSource, head_of, read_of, room_for, source_of, total_of, word_of}
use Rattle.pk_join.specs.Reading.{HaveRead}

-- where each lies
abbrev pub extents_of : List Input → List Extent
extents_of is = map (λ (i : Input). i.extent) is

-- each has the extent of the segment at its place
abbrev pub HaveExtentsOf : List MergeInput → List Input → Type 0
HaveExtentsOf given is = map (λ (m : MergeInput). m.extent) given ≡ extents_of is

-- what the words of each, with their lists, are read from
abbrev pub lists_of : List Input → List ListSource
lists_of is = map (λ (i : Input). source_of i.lists) is

-- the key of the word at the head of each
abbrev pub keys_of : List Input → List ℕ
keys_of is = map (λ (i : Input). i.key) is

-- the word at the head of each, if it stands at one
abbrev pub heads_of : List Input → List (Option (List ℕ))
heads_of is = map (λ (i : Input). head_of i.stands i.lists) is

-- the word that each came to last
abbrev pub words_of : List Input → List (List ℕ)
words_of is = map (λ (i : Input). word_of i.lists) is

-- how many words of an input were passed
abbrev pub passed_in : Input → ℕ
passed_in i = passed_by i.stands (read_of i.lists)

-- how many of each
abbrev pub passed_of : List Input → List ℕ
passed_of is = map passed_in is

-- What was read of it is what stands in its extent, on a disk of these bytes: what is held of its
-- lists, and its words.
pub record Holds (bytes : List ℕ) (i : Input) : Type 0 where
  pub ahead : HoldsOf (extent_bytes bytes i.extent) i.ahead
  pub words : HaveRead (extent_bytes bytes i.extent) i.lists

-- its extent lies within a disk of so many bytes
abbrev pub IsWithin : ℕ → Input → Type 0
IsWithin size i = start_of i.extent + i.extent.bytes ≤ size

-- a list of its texts has so many numbers at the most
abbrev pub HasRoom : ℕ → Input → Type 0
HasRoom room i = room_for (source_of i.lists) ≤ room

-- where it stands at no word, all were passed
abbrev pub IsRead : Input → Type 0
IsRead i = i.stands ≡ false → total_of (source_of i.lists) ≤ passed_in i

-- a word, or no bytes
abbrev pub word_in : Option Input → List ℕ
word_in None = []
word_in (Some i) = word_of i.lists

-- The input is the same but for what is read ahead of its lists.
pub record StandsAs (old new : Input) : Type 0 where
  pub extent : new.extent ≡ old.extent
  pub lists : new.lists ≡ old.lists
  pub stands : new.stands ≡ old.stands
  pub key : new.key ≡ old.key

-- So are all of them.
pub record StandAs (old new : List Input) : Type 0 where
  pub extents : extents_of new ≡ extents_of old
  pub lists : lists_of new ≡ lists_of old
  pub heads : heads_of new ≡ heads_of old
  pub words : words_of new ≡ words_of old
  pub passed : passed_of new ≡ passed_of old
  pub keys : keys_of new ≡ keys_of old

-- The inputs are the same, and as many words of each were passed.
pub record GoNowhere (old new : List Input) : Type 0 where
  pub extents : extents_of new ≡ extents_of old
  pub lists : lists_of new ≡ lists_of old
  pub passed : passed_of new ≡ passed_of old

-- the input stands before its first word, and nothing is read ahead of it
pub record IsBefore (i : Input) : Type 0 where
  pub stands : i.stands ≡ false
  pub lists : AreFresh i.lists
  pub ahead : HoldsNone i.ahead
