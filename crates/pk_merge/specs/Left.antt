-- The documents that are left, as far as the inputs were looked at.
use Rattle.std.specs.Prelude.{◌≡◌, ◌<◌, ◌+◌, ℕ, List, [], ◌∷◌, ◌++◌, Result, Ok, Err}
use Rattle.pk_model.specs.Limits.{max_segment_bytes}
use Rattle.pk_merge.specs.declared.fault.MergeFault.{MergeFault}
use Rattle.pk_merge.specs.declared.fault.MergeFault.TheVariants.{TooLarge, Damaged, Disk, Memory, NotWritten}
use Rattle.pk_merge.specs.declared.kept.Kept.{Kept}
use Rattle.pk_merge.specs.declared.left.Left.{Left}
use Rattle.pk_merge.specs.Gathering.{RiseFrom}
use Rattle.pk_merge.specs.Keeping.{AreKept}
use Rattle.pk_merge.specs.Merging.{MergeFails}
use Rattle.pk_model.specs.Collection.{Doc}

-- the documents that are kept
abbrev pub kept_in : Left → List Kept
kept_in l = l.documents.items

-- one document more is kept behind these, whose segment has so many bytes without an index; or they
-- would be too many bytes, or memory was refused
abbrev pub KeepsOneAs : {T : Type 0} → List Kept → ℕ → Kept → Left → Result T MergeFault → Type 0
KeepsOneAs ks bytes k new (Ok u) = kept_in new ≡ ks ++ k ∷ []
KeepsOneAs ks bytes k new (Err TooLarge) = max_segment_bytes < bytes + 12 + k.len
KeepsOneAs ks bytes k new (Err Damaged) = ⊥
KeepsOneAs ks bytes k new (Err Disk) = ⊥
KeepsOneAs ks bytes k new (Err Memory) = Unit {0}
KeepsOneAs ks bytes k new (Err NotWritten) = ⊥

-- the documents that are left are kept behind those so far, and those that come next still rise; or
-- a merge of them fails, even to a segment of kind 1
abbrev pub TakesAs : {T : Type 0} → List ℕ → List Doc → List Doc → List Doc → Left
    → Result T MergeFault → Type 0
TakesAs bytes so_far left more new (Ok u) =
    AreKept bytes (kept_in new) (so_far ++ left) × RiseFrom new.last more
TakesAs bytes so_far left more new (Err fault) = MergeFails (so_far ++ left) 1 fault

-- the device did not fail
abbrev pub IsNoDisk : MergeFault → Type 0
IsNoDisk TooLarge = Unit {0}
IsNoDisk Damaged = Unit {0}
IsNoDisk Disk = ⊥
IsNoDisk Memory = Unit {0}
IsNoDisk NotWritten = ⊥
