-- What a merge has gathered when it has come past some of the documents.
use Rattle.std.specs.Prelude.{◌≡◌, ℕ, ◌<◌, List, [], ◌∷◌, ◌++◌, Option, Result, Ok, Err}
use Rattle.std.specs.Global.{Vec}
use Rattle.std.specs.List.Sorted.{IsStrictlyIncreasing}
use Rattle.pk_model.specs.Limits.{max_segment_bytes}
use Rattle.pk_merge.specs.declared.fault.MergeFault.{MergeFault}
use Rattle.pk_merge.specs.declared.fault.MergeFault.TheVariants.{TooLarge, Damaged, Disk, Memory, NotWritten}
use Rattle.pk_merge.specs.declared.gathered.Gathered.{Gathered}
use Rattle.pk_merge.specs.Merging.{IsMerged, MergeFails}
use Rattle.pk_model.specs.Collection.{Doc, numbers_of}
use Rattle.pk_segment.specs.Spelling.{docs_of, segment_length}
use Rattle.pk_state.specs.Committed.{live_of}

-- the documents that were gathered
abbrev pub docs_in : Gathered → List Doc
docs_in g = docs_of g.documents.items

-- the documents that a deletion list leaves
abbrev pub left_by : List ℕ → List Doc → List Doc
left_by dead docs = live_of (record { documents = docs; dead = dead })

-- the numbers of the documents rise from above the last one on
abbrev pub RiseFrom : ℕ → List Doc → Type 0
RiseFrom last docs = IsStrictlyIncreasing (last ∷ numbers_of docs)

-- what fails in memory alone: they would be too many bytes, or memory was refused
abbrev pub FailsInMemory : List Doc → ℕ → MergeFault → Type 0
FailsInMemory docs kind TooLarge = max_segment_bytes < segment_length docs kind
FailsInMemory docs kind Damaged = ⊥
FailsInMemory docs kind Disk = ⊥
FailsInMemory docs kind Memory = Unit {0}
FailsInMemory docs kind NotWritten = ⊥

-- one document more was kept, or even a segment of kind 1 would be too long, or memory was refused
abbrev pub KeepsAs : {T : Type 0} → Gathered → Doc → Gathered → Result T MergeFault → Type 0
KeepsAs old d new (Ok u) = (docs_in new ≡ docs_in old ++ d ∷ []) × (new.last ≡ d.number)
KeepsAs old d new (Err fault) = FailsInMemory (docs_in old ++ d ∷ []) 1 fault

-- the segment of a kind of the documents, none where there is none; or it would be too long, or
-- memory was refused
abbrev pub BuildsAs : List Doc → ℕ → Result (Option (Vec ℕ)) MergeFault → Type 0
BuildsAs docs kind (Ok bytes) = IsMerged docs kind bytes
BuildsAs docs kind (Err fault) = FailsInMemory docs kind fault

-- the documents that are left were kept, and those that come next still rise; or a merge of them
-- fails, even to a segment of kind 1
abbrev pub GathersAs : {T : Type 0} → List Doc → List Doc → Gathered → Gathered
    → Result T MergeFault → Type 0
GathersAs left more old new (Ok u) =
    (docs_in new ≡ docs_in old ++ left) × RiseFrom new.last more
GathersAs left more old new (Err fault) = MergeFails (docs_in old ++ left) 1 fault
