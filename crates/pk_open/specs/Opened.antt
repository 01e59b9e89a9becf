-- Open segments, and what they and their entries stand for.
use Rattle.std.specs.Prelude.{◌≡◌, ◌==◌, ◌-◌, ℕ, Bool, true, not, List, [], ◌∷◌, length, map, slice_index_or}
use Rattle.pk_manifest.specs.declared.manifest.Part.{Part as Entry}
use Rattle.pk_model.specs.Collection.{Doc}
use Rattle.pk_posting.specs.Posting.{IsPosting}
use Rattle.pk_open.specs.declared.opened.OpenSegment.{OpenSegment}
use Rattle.pk_segment.specs.Listing.{dictionary_place}
use Rattle.pk_segment.specs.Opened.{IsSegmentOf, count_of}
use Rattle.pk_segment.specs.Placed.{dictionary_of}
use Rattle.pk_state.specs.Committed.{Names, Stored, lists}

-- the entries of open segments
abbrev pub entries_of : List OpenSegment → List Entry
entries_of opened = map (λ (o : OpenSegment). o.entry) opened

-- a deletion is there that no commit has taken
abbrev pub pends : OpenSegment → Bool
pends o = not (length o.deleted == length o.dead)

-- how many of its documents are not deleted
abbrev pub left_of : OpenSegment → ℕ
left_of o = count_of o.segment - length o.deleted

-- The open segment is that of the entry's documents, of kind 2 with the place of their dictionary,
-- and has its dead numbers; those and others of its documents are deleted.
pub record IsOpenOf (o : OpenSegment) (s : Stored) : Type 0 where
  pub segment : IsSegmentOf o.segment s.documents
  pub dictionary : o.entry.kind ≡ 2 → dictionary_of o.segment ≡ dictionary_place s.documents
  pub dead : o.dead ≡ s.dead
  pub kept : (n : ℕ) → lists n s.dead ≡ true → lists n o.deleted ≡ true
  pub names : Names o.deleted s.documents
  pub posting : IsPosting o.deleted
  pub was : IsPosting o.dead

-- each open segment is that of the documents at its place
abbrev pub AreOpenOf : List OpenSegment → List Stored → Type 0
AreOpenOf [] [] = Unit {0}
AreOpenOf [] (s ∷ stored) = ⊥
AreOpenOf (o ∷ opened) [] = ⊥
AreOpenOf (o ∷ opened) (s ∷ stored) = IsOpenOf o s × AreOpenOf opened stored

-- what an entry stands for once all its deletions are committed
abbrev pub with_deleted : OpenSegment → Stored → Stored
with_deleted o s = record { documents = s.documents; dead = o.deleted }

-- what the entries stand for, each deletion counted
abbrev pub present : List OpenSegment → List Stored → List Stored
present [] stored = []
present (o ∷ opened) [] = []
present (o ∷ opened) (s ∷ stored) = with_deleted o s ∷ present opened stored

-- the documents of the entry at a place
abbrev pub none_stored : Stored
none_stored = record { documents = []; dead = [] }

abbrev pub documents_at : List Stored → ℕ → List Doc
documents_at stored i = (slice_index_or stored i none_stored).documents
