-- What a merge has read of its inputs.
use Rattle.std.specs.Prelude.{ℕ, List, ◌++◌, Result, Ok, Err}
use Rattle.pk_join.specs.declared.lists.InputLists.{InputLists}
use Rattle.pk_join.specs.Listed.{AreListsOf, source_of}
use Rattle.pk_merge.specs.declared.fault.MergeFault.{MergeFault}
use Rattle.pk_merge.specs.declared.left.Left.{Left}
use Rattle.pk_merge.specs.Gathering.{RiseFrom, left_by}
use Rattle.pk_merge.specs.Keeping.{AreKept}
use Rattle.pk_merge.specs.Left.{kept_in}
use Rattle.pk_merge.specs.Merging.{MergeFails}
use Rattle.pk_model.specs.Collection.{Doc}

-- What was read of an input: its words and lists, and the documents that its deletion list leaves
-- behind those so far.
pub record HasRead (kind : ℕ) (bytes : List ℕ) (so_far docs : List Doc) (dead : List ℕ)
    (more : List Doc) (new : Left) (lists : InputLists) : Type 0 where
  pub listed : AreListsOf (source_of lists) kind docs dead
  pub kept : AreKept bytes (kept_in new) (so_far ++ left_by dead docs)
  pub rise : RiseFrom new.last more

-- that was read, or a merge of the documents that are left fails, even to a segment of kind 1
abbrev pub ReadsAs : ℕ → List ℕ → List Doc → List Doc → List ℕ → List Doc → Left
    → Result InputLists MergeFault → Type 0
ReadsAs kind bytes so_far docs dead more new (Ok lists) =
    HasRead kind bytes so_far docs dead more new lists
ReadsAs kind bytes so_far docs dead more new (Err fault) =
    MergeFails (so_far ++ left_by dead docs) 1 fault
