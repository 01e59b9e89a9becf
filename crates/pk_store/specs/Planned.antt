-- What is planned of a merge that is prepared.
use Rattle.std.specs.Prelude.{◌≡◌, ◌⊎◌, ◌<◌, ℕ, List, Option, Result, Ok, Err}
use Rattle.std.specs.List.{sum_by}
use Rattle.pk_model.specs.declared.commands.Refusal.{Refusal}
use Rattle.pk_model.specs.declared.commands.Refusal.TheVariants.{Damaged}
use Rattle.pk_manifest.specs.Spelling.{Body}
use Rattle.pk_merge.specs.declared.prepared.Prepared.{Prepared}
use Rattle.pk_open.specs.declared.opened.OpenSegment.{OpenSegment}
use Rattle.pk_layout.specs.declared.fault.LayoutFault.{LayoutFault}
use Rattle.pk_layout.specs.declared.merging.MergePlan.{MergePlan}
use Rattle.pk_layout.specs.declared.merging.NewSegment.{NewSegment}
use Rattle.pk_layout.specs.Change.{changed}
use Rattle.pk_layout.specs.Faults.{layout_refusal}
use Rattle.pk_layout.specs.Merging.{PlansMerged}
use Rattle.pk_store.specs.declared.prepared.NoSegment.{NoSegment}
use Rattle.pk_store.specs.Losing.{LosesNone, committed_left}
use Rattle.pk_store.specs.Prepared.{OpensRun}

-- there is no plan for the segment, or one that would lose documents
abbrev pub IsUnplanned : Body → List OpenSegment → ℕ → ℕ → Option NewSegment → Refusal → Type 0
IsUnplanned body opened from n new why =
    ((fault : LayoutFault) × PlansMerged body opened from n new (Err fault)
    × (why ≡ layout_refusal fault))
    ⊎ ((m : MergePlan) × PlansMerged body opened from n new (Ok m)
    × (sum_by committed_left (changed m.plan.change opened) < sum_by committed_left opened)
    × (why ≡ Damaged))

-- THE PLAN OF WHAT IS PREPARED of n segments from a place on, which loses no document; or why there
-- is none
abbrev pub PlansPrepared : Body → List OpenSegment → ℕ → ℕ → Option Prepared
    → Result MergePlan Refusal → Type 0
PlansPrepared body opened from n prepared (Ok m) = (new : Option NewSegment)
    × OpensRun prepared (Ok new) × PlansMerged body opened from n new (Ok m)
    × LosesNone opened (changed m.plan.change opened)
PlansPrepared body opened from n prepared (Err why) =
    ((none : NoSegment) × OpensRun prepared (Err none) × (why ≡ Damaged))
    ⊎ ((new : Option NewSegment) × OpensRun prepared (Ok new)
    × IsUnplanned body opened from n new why)
