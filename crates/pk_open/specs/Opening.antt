-- What the entries of a body open as: their segments, with what is deleted of each.
use Rattle.std.specs.Prelude.{◌≡◌, ◌<◌, ◌≤◌, ℕ, List, [], ◌∷◌, ◌++◌, length, None, Some, Option, Result, Ok, Err}
use Rattle.std.specs.Global.{Vec}
use Rattle.pk_disk.specs.declared.units.Extent.{Extent}
use Rattle.pk_disk.specs.Units.{extent_bytes}
use Rattle.pk_manifest.specs.declared.manifest.Part.{Part as Entry}
use Rattle.pk_manifest.specs.Spelling.{Body}
use Rattle.pk_posting.specs.Posting.{IsPosting}
use Rattle.pk_posting.specs.Spelling.{spelling as list_spelling}
use Rattle.pk_open.specs.declared.opened.OpenSegment.{OpenSegment}
use Rattle.pk_posting.specs.declared.fault.ReadFault.{ReadFault}
use Rattle.pk_posting.specs.declared.fault.ReadFault.TheVariants.{Damaged, Disk, Memory}
use Rattle.pk_segment.specs.declared.segment.Segment.{Segment}
use Rattle.pk_segment.specs.Opened.{IsOpened, count_of, first_of, last_of}

-- no number of its deletion list is forgotten among those that are deleted, as far as counting goes
abbrev pub IsGrown : OpenSegment → Type 0
IsGrown o = length o.dead ≤ length o.deleted

-- The bytes are the posting list of these numbers, no more than so many.
pub record SpellsFew (bytes : List ℕ) (count : ℕ) (dead : List ℕ) : Type 0 where
  pub posting : IsPosting dead
  pub same : bytes ≡ list_spelling dead
  pub few : length dead ≤ count

-- the dead numbers are those of the entry's deletion list, no more than so many; without one there
-- are none
abbrev pub OpensAsList : List ℕ → Option Extent → ℕ → List ℕ → Type 0
OpensAsList bytes None count dead = dead ≡ []
OpensAsList bytes (Some e) count dead = SpellsFew (extent_bytes bytes e) count dead

-- the header and the directory's ends in the entry's extent open as this segment of its kind
abbrev pub ExtentOpensAs : List ℕ → Entry → Segment → Type 0
ExtentOpensAs bytes e s = IsOpened (extent_bytes bytes e.extent) e.extent.bytes e.kind s

-- The entry's extent opens as this segment, with the dead numbers of its deletion list; no other
-- one is deleted.
pub record OpensAsSegment (bytes : List ℕ) (e : Entry) (o : OpenSegment) : Type 0 where
  pub entry : o.entry ≡ e
  pub opened : ExtentOpensAs bytes e o.segment
  pub list : OpensAsList bytes e.dead (count_of o.segment) o.dead
  pub deleted : o.deleted ≡ o.dead

-- Each entry opens as the segment at its place; their numbers rise from segment to segment, above
-- low, and stay below next.
abbrev pub OpenAsSegments : List ℕ → ℕ → ℕ → List Entry → List OpenSegment → Type 0
OpenAsSegments bytes low next [] [] = Unit {0}
OpenAsSegments bytes low next [] (o ∷ os) = ⊥
OpenAsSegments bytes low next (e ∷ es) [] = ⊥
OpenAsSegments bytes low next (e ∷ es) (o ∷ os) =
    OpensAsSegment bytes e o × (low < first_of o.segment) × (last_of o.segment < next)
    × OpenAsSegments bytes (last_of o.segment) next es os

-- the entry opens as this segment, whose numbers are above low and below next
abbrev pub OpensNext : List ℕ → ℕ → ℕ → Entry → OpenSegment → Type 0
OpensNext bytes low next e o =
    OpensAsSegment bytes e o × (low < first_of o.segment) × (last_of o.segment < next)

-- something that is P, or, where it is damaged, nothing is
abbrev pub ReadsOne : {T : Type 0} → (T → Type 0) → Result T ReadFault → Type 0
ReadsOne P (Ok s) = P s
ReadsOne {T} P (Err Damaged) = (s : T) → P s → ⊥
ReadsOne P (Err Disk) = Unit {0}
ReadsOne P (Err Memory) = Unit {0}

-- the entries open as those segments, or, where one is damaged, as none
abbrev pub SegmentsAs : List ℕ → Body → Result (Vec OpenSegment) ReadFault → Type 0
SegmentsAs bytes b (Ok v) = OpenAsSegments bytes 0 b.next_number b.entries v.items
SegmentsAs bytes b (Err Damaged) = (segments : List OpenSegment)
    → OpenAsSegments bytes 0 b.next_number b.entries segments → ⊥
SegmentsAs bytes b (Err Disk) = Unit {0}
SegmentsAs bytes b (Err Memory) = Unit {0}

-- So far these segments are open, the last of their numbers is low, and those entries are left.
pub record IsOpenSoFar (bytes : List ℕ) (next : ℕ) (entries : List Entry) (low : ℕ)
    (segments : List OpenSegment) (left : List Entry) : Type 0 where
  pub onward : (rest : List OpenSegment) → OpenAsSegments bytes low next left rest
      → OpenAsSegments bytes 0 next entries (segments ++ rest)
  pub back : (all : List OpenSegment) → OpenAsSegments bytes 0 next entries all
      → (rest : List OpenSegment) × OpenAsSegments bytes low next left rest
