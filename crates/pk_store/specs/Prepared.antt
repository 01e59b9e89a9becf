-- What is prepared, as what is planned.
use Rattle.std.specs.Prelude.{◌≡◌, ℕ, List}
use Rattle.std.specs.Prelude.{Option, Some, None, Result, Ok, Err}
use Rattle.pk_join.specs.declared.input.MergeInput.{MergeInput}
use Rattle.pk_layout.specs.declared.merging.NewSegment.{NewSegment}
use Rattle.pk_layout.specs.Merging.{IsSegmentTo, IsSized}
use Rattle.pk_merge.specs.declared.prepared.Prepared.{Prepared}
use Rattle.pk_merge.specs.Prepared.{IsPrepared}
use Rattle.pk_state.specs.Committed.{Stored, live_in}
use Rattle.pk_store.specs.declared.prepared.NoSegment.{NoSegment}

-- what is prepared opens as what is going to be written, where it is a merge of some documents
abbrev pub OpensRun : Option Prepared → Result (Option NewSegment) NoSegment → Type 0
OpensRun None (Ok None) = Unit {0}
OpensRun None (Ok (Some new)) = ⊥
OpensRun (Some p) (Ok None) = ⊥
OpensRun (Some p) (Ok (Some new)) = (new.bytes ≡ p.size) × IsSized (Some new)
    × ((bytes : List ℕ) (inputs : List MergeInput) (stored : List Stored)
    → IsPrepared bytes inputs stored p → IsSegmentTo (live_in stored) new)
OpensRun None (Err why) = ⊥
OpensRun (Some p) (Err why) = (bytes : List ℕ) (inputs : List MergeInput)
    (stored : List Stored) → IsPrepared bytes inputs stored p → ⊥
