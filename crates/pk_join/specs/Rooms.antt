-- Room for the words of inputs, so that a walk through them takes no memory.
use Rattle.std.specs.Prelude.{◌≡◌, ◌≤◌, ℕ, List, length, Ok, All}
use Rattle.pk_dict.specs.declared.cursor.TermCursor.{TermCursor}
use Rattle.pk_dict.specs.declared.entry.Entry.{Entry}
use Rattle.pk_dict.specs.Dictionary.{group_count}
use Rattle.pk_dict.specs.Memory.{HasRoom}
use Rattle.pk_dict.specs.Place.{bytes_at}
use Rattle.pk_dict.specs.Said.{nth_word}
use Rattle.pk_disk.specs.Units.{extent_bytes}
use Rattle.pk_posting.specs.declared.fault.ReadFault.{ReadFault}
use Rattle.pk_posting.specs.declared.fault.ReadFault.TheVariants.{Damaged, Disk, Memory}
use Rattle.pk_join.specs.declared.lists.InputLists.{InputLists}
use Rattle.pk_join.specs.declared.lists.InputLists.TheVariants.{Stored, Indexed}
use Rattle.pk_join.specs.declared.walk.Walk.{Walk}
use Rattle.pk_join.specs.declared.walk_input.Input.{Input}
use Rattle.pk_join.specs.Listed.{source_of, total_of}
use Rattle.pk_join.specs.WalkInput.{passed_in}

-- The nth word of a dictionary of so many groups is said, and has at most so many bytes.
pub record IsShort (bytes : List ℕ) (groups most n : ℕ) : Type 0 where
  pub item : List ℕ × Entry × ℕ
  pub said : nth_word bytes groups n ≡ Ok item
  pub short : length item.0 ≤ most

-- A cursor has room for each word of the dictionary in these bytes.
pub record HasRoomFor (bytes : List ℕ) (c : TermCursor) : Type 0 where
  pub most : ℕ
  pub room : HasRoom most c
  pub short : (n : ℕ) → n ≤ c.place.terms → IsShort bytes (group_count c.place.terms) most n

-- so does that over the dictionary of a segment; over texts none is needed
abbrev pub HaveRoomFor : List ℕ → InputLists → Type 0
HaveRoomFor bytes (Stored words postings marks) = HasRoomFor (bytes_at bytes words.place) words
HaveRoomFor bytes (Indexed words marks) = Unit {0}

-- so does that of an input, on a disk of these bytes
abbrev pub IsRoomy : List ℕ → Input → Type 0
IsRoomy bytes i = HaveRoomFor (extent_bytes bytes i.extent) i.lists

-- so do those of a walk
abbrev pub WalkIsRoomy : List ℕ → Walk → Type 0
WalkIsRoomy bytes walk = All (IsRoomy bytes) walk.inputs.items

-- memory was not refused
abbrev pub IsNoRefusal : ReadFault → Type 0
IsNoRefusal Damaged = Unit {0}
IsNoRefusal Disk = Unit {0}
IsNoRefusal Memory = ⊥

-- all words of an input were passed
abbrev pub HasEnded : Input → Type 0
HasEnded i = total_of (source_of i.lists) ≤ passed_in i
