-- A plan of what is prepared of a run is the run's, and where there is none the refusal is.
use Rattle.std.proofs.Common.{◌≡◌, ℕ, List, length, inl, inr, sym, subst, Ok, Err, Option}
use Rattle.pk_disk.specs.declared.disk.Disk.{Ghosts}
use Rattle.pk_join.specs.declared.input.MergeInput.{MergeInput}
use Rattle.pk_merge.specs.declared.prepared.Prepared.{Prepared}
use Rattle.pk_merge.specs.Prepared.{IsReady as IsReadyToMerge}
use Rattle.pk_model.specs.declared.commands.Refusal.{Refusal}
use Rattle.pk_layout.specs.declared.merging.MergePlan.{MergePlan}
use Rattle.pk_store.specs.Merging.{PlansRun}
use Rattle.pk_store.specs.Planned.{PlansPrepared}
use Rattle.pk_store.specs.View.{VolumeView}
use Rattle.pk_store.proofs.LosingLemmas.{plans_short}
use Rattle.pk_store.proofs.PlanMergeLemmas.{Prepares, ReadsRun, plans_damaged, plans_run, plans_unplaced, read_on}

module _ {D : Type 0} {d : Ghosts D} {v : VolumeView D} {disk : D} {from n : ℕ} {inputs : List MergeInput} (read : ReadsRun d v disk from n inputs)
    (prepared : Option Prepared) (prepares : Prepares read (Ok prepared)) (ready_is : IsReadyToMerge (length (d.content v.disk)) inputs (Ok prepared)) (reads : d.failed_reads disk ≡ d.failed_reads v.disk) where
  pub planned : (m : MergePlan) → PlansPrepared v.body v.opened from n prepared (Ok m) → PlansRun d v from n inputs (Ok (record { merge = m; prepared = prepared })) (read_on v disk)
  planned m (new, opens, plans, none) = plans_run read prepared prepares ready_is reads new opens m plans

  refused_as : {why same : Refusal} → why ≡ same → PlansRun d v from n inputs (Err same) (read_on v disk) → PlansRun d v from n inputs (Err why) (read_on v disk)
  refused_as is plans = subst (λ (r : Refusal). PlansRun d v from n inputs (Err r) (read_on v disk)) (sym is) plans

  pub unplanned : (why : Refusal) → PlansPrepared v.body v.opened from n prepared (Err why) → PlansRun d v from n inputs (Err why) (read_on v disk)
  unplanned why (inl (none, opens, is)) = refused_as is (plans_damaged read prepared prepares ready_is reads none opens)
  unplanned why (inr (new, opens, inl (fault, plans, is))) = refused_as is (plans_unplaced read prepared prepares ready_is reads new opens fault plans)
  unplanned why (inr (new, opens, inr (m, plans, short, is))) =
      refused_as is (plans_short d v (read_on v disk) from n inputs (record { merge = m; prepared = prepared }) (plans_run read prepared prepares ready_is reads new opens m plans) short)
