-- What a disk holds: the body in force with what its entries stand for, and the collection that
-- this is.
use Rattle.std.specs.Prelude.{◌≡◌, ◌⊎◌, ℕ, true, List, [], ◌∷◌, Option, Some, None, length, All}
use Rattle.pk_disk.specs.declared.units.Extent.{Extent}
use Rattle.pk_disk.specs.Units.{extent_bytes}
use Rattle.pk_manifest.specs.declared.half.Half.{Half}
use Rattle.pk_manifest.specs.declared.manifest.Part.{Part as Entry}
use Rattle.pk_manifest.specs.Bodies.{body_of, has_open_gate}
use Rattle.pk_manifest.specs.Current.{HasBody}
use Rattle.pk_manifest.specs.Sound.{named}
use Rattle.pk_manifest.specs.Spelling.{Body}
use Rattle.pk_segment.specs.Spelling.{IndexSpells, SegmentSpells}
use Rattle.pk_model.specs.Collection.{Collection, IsCollection}
use Rattle.pk_posting.specs.Posting.{IsPosting}
use Rattle.pk_posting.specs.Spelling.{spelling}
use Rattle.pk_state.specs.Committed.{Stored, Committed, Names, collection_of, whole_of}

-- The bytes of the extent are the posting list of the dead numbers, and these are numbers of the
-- documents.
pub record SpellsList (bytes : List ℕ) (e : Extent) (s : Stored) : Type 0 where
  pub posting : IsPosting s.dead
  pub same : extent_bytes bytes e ≡ spelling s.dead
  pub names : Names s.dead s.documents

-- a deletion list spells the dead numbers; without one there are none
abbrev pub ListSpells : List ℕ → Option Extent → Stored → Type 0
ListSpells bytes None s = s.dead ≡ []
ListSpells bytes (Some e) s = SpellsList bytes e s

-- The entry's extent is the segment of its kind of the documents, and its deletion list spells the
-- dead numbers.
pub record SpellsEntry (bytes : List ℕ) (e : Entry) (s : Stored) : Type 0 where
  pub segment : SegmentSpells (extent_bytes bytes e.extent) s.documents e.kind
  pub list : ListSpells bytes e.dead s

-- each entry spells what stands at its place
abbrev pub SpellsEntries : List ℕ → List Entry → List Stored → Type 0
SpellsEntries bytes [] [] = Unit {0}
SpellsEntries bytes [] (s ∷ stored) = ⊥
SpellsEntries bytes (e ∷ es) [] = ⊥
SpellsEntries bytes (e ∷ es) (s ∷ stored) = SpellsEntry bytes e s × SpellsEntries bytes es stored

-- The same, but of kind 2 the texts may be any bytes: what a search by posting lists rests on.
pub record IndexesEntry (bytes : List ℕ) (e : Entry) (s : Stored) : Type 0 where
  pub plain : (e.kind ≡ 2 → ⊥) → SegmentSpells (extent_bytes bytes e.extent) s.documents e.kind
  pub indexed : e.kind ≡ 2 → IndexSpells (extent_bytes bytes e.extent) s.documents
  pub list : ListSpells bytes e.dead s

-- each entry indexes what stands at its place
abbrev pub IndexesEntries : List ℕ → List Entry → List Stored → Type 0
IndexesEntries bytes [] [] = Unit {0}
IndexesEntries bytes [] (s ∷ stored) = ⊥
IndexesEntries bytes (e ∷ es) [] = ⊥
IndexesEntries bytes (e ∷ es) (s ∷ stored) = IndexesEntry bytes e s × IndexesEntries bytes es stored

-- THE BYTES HOLD THE COLLECTION: the body in force is sound, each of its entries spells what it
-- stands for, numbers rise from entry to entry, and what the deletion lists leave is the
-- collection's.
pub record Holds (bytes : List ℕ) (c : Collection) : Type 0 where
  pub half : Half
  pub committed : Committed
  pub current : HasBody bytes half committed.body
  pub spelled : SpellsEntries bytes committed.body.entries committed.stored
  pub numbers : IsCollection (whole_of committed)
  pub stands_for : collection_of committed ≡ c

-- THE BYTES INDEX THE COLLECTION: they hold it, but the texts of segments of kind 2 may be any bytes.
pub record Indexes (bytes : List ℕ) (c : Collection) : Type 0 where
  pub half : Half
  pub committed : Committed
  pub current : HasBody bytes half committed.body
  pub indexed : IndexesEntries bytes committed.body.entries committed.stored
  pub numbers : IsCollection (whole_of committed)
  pub stands_for : collection_of committed ≡ c

-- the image holds the one collection or the other
abbrev pub HoldsOne : Collection → Collection → List ℕ → Type 0
HoldsOne a b image = Holds image a ⊎ Holds image b

-- WHAT COUNTS of a disk's bytes: the image is as long as the bytes, its gates are open where theirs
-- are, and the bodies behind open gates and the extents that the body names are the same.
pub record AgreeWith (bytes image : List ℕ) (b : Body) : Type 0 where
  pub size : length image ≡ length bytes
  pub gates : (half : Half) → has_open_gate image half ≡ has_open_gate bytes half
  pub bodies : (half : Half) → has_open_gate bytes half ≡ true
      → body_of image half ≡ body_of bytes half
  pub extents : All (λ (e : Extent). extent_bytes image e ≡ extent_bytes bytes e) (named b)
