-- What a merge has read of all inputs.
use Rattle.std.specs.Prelude.{ℕ, List, Result, Ok, Err}
use Rattle.std.specs.Global.{Vec}
use Rattle.pk_join.specs.declared.input.MergeInput.{MergeInput}
use Rattle.pk_join.specs.declared.walk_input.Input.{Input}
use Rattle.pk_join.specs.WalkInput.{lists_of}
use Rattle.pk_join.specs.Walking.{AreListed}
use Rattle.pk_merge.specs.declared.fault.MergeFault.{MergeFault}
use Rattle.pk_merge.specs.declared.left.Left.{Left}
use Rattle.pk_merge.specs.Keeping.{AreKept}
use Rattle.pk_merge.specs.Left.{kept_in}
use Rattle.pk_merge.specs.Merging.{MergeFails}
use Rattle.pk_state.specs.Committed.{Stored, live_in}

-- the words and lists of all inputs were read, and the documents that they leave are kept; or a
-- merge of them fails, even to a segment of kind 1
abbrev pub ReadsAllAs : List ℕ → List MergeInput → List Stored → Result (Vec Input × Left) MergeFault
    → Type 0
ReadsAllAs bytes inputs stored (Ok read) =
    AreListed inputs (lists_of read.0.items) stored × AreKept bytes (kept_in read.1) (live_in stored)
ReadsAllAs bytes inputs stored (Err fault) = MergeFails (live_in stored) 1 fault
