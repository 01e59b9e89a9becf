-- What the segments of the run leave is planned.
use Rattle.std.proofs.Common.{◌∙◌, ◌+◌, ◌≤◌, length, ap, arith, inl, inr, refl, subst, sum_by, sym, List, ℕ, ◌-◌, ◌≡◌, Err, Ok, drop, take}
use Rattle.std.proofs.lemmas.Result.{err_from_is_err_and}
use Rattle.pk_manifest.specs.Spelling.{view}
use Rattle.pk_open.specs.declared.opened.OpenSegment.{OpenSegment}
use Rattle.pk_open.specs.Opened.{entries_of}
use Rattle.pk_layout.specs.Merging.{PlansMerged, run_of}
use Rattle.pk_layout.specs.Plan.{LeavesRoom}
use Rattle.pk_store.specs.Losing.{committed_left}
use Rattle.pk_store.specs.Planned.{PlansPrepared}
use Rattle.pk_store.specs.View.{VolumeView}
use Rattle.pk_store.proofs.LosingLemmas.{left_planned}
use Rattle.pk_store.proofs.MergeRunLemmas.{run_within}
use Rattle.pk_store.proofs.PlanMergeLemmas.{new_sized, sound_there}
use Rattle.pk_store.proofs.volume.Volume.plan_prepared.Given as given
use Rattle.pk_store.proofs.volume.Volume.plan_prepared.Goals as goal
use Rattle.pk_store.proofs.volume.Volume.plan_prepared.Goals.{After-deref-2}

-- the slice of the run has the documents of the run
run_left : (opened lent : List OpenSegment) (from n : ℕ) → lent ≡ opened → sum_by committed_left (take ((from + n) - from) (drop from lent)) ≡ sum_by committed_left (run_of from n opened)
run_left opened lent from n same = let all : (from + n) - from ≡ n = omega arith in λ i. sum_by committed_left (take (all i) (drop from (same i)))

pub plan_merged-requires-clause-same : goal.plan_merged-requires-clause-same
plan_merged-requires-clause-same g c = ap entries_of c.deref.ensures.value ∙ c.self.invariant.0.opened

pub plan_merged-requires-clause-within : goal.plan_merged-requires-clause-within
plan_merged-requires-clause-within g c =
    run_within c.args.from c.args.count _ _ _ c.self.invariant.0.opened c.deref.ensures.value (subst (λ (v : VolumeView g.row.D.Denot). c.args.from + c.args.count ≤ length v.body.entries) (sym c.self.view_is) c.requires.within)

pub plan_merged-requires-clause-sound : goal.plan_merged-requires-clause-sound
plan_merged-requires-clause-sound g c = sound_there _ _ c.self.invariant.0.sound

pub plan_merged-requires-clause-generation : goal.plan_merged-requires-clause-generation
plan_merged-requires-clause-generation g c = (subst (λ (v : VolumeView g.row.D.Denot). LeavesRoom v.body 0) (sym c.self.view_is) c.requires.room).0

pub plan_merged-requires-clause-id : goal.plan_merged-requires-clause-id
plan_merged-requires-clause-id g c = (subst (λ (v : VolumeView g.row.D.Denot). LeavesRoom v.body 0) (sym c.self.view_is) c.requires.room).1

pub plan_merged-requires-clause-some : goal.plan_merged-requires-clause-some
plan_merged-requires-clause-some g c = c.requires.some

pub plan_merged-requires-clause-sized : goal.plan_merged-requires-clause-sized
plan_merged-requires-clause-sized g c = (new_sized _ c.in_ok-new.new c.in_ok-new.ensures).0

pub returns-in_err-new : goal.returns-in_err-new
returns-in_err-new g c =
    let found = err_from_is_err_and c.from_residual.result c.from_residual.ensures.1 in
    rw found.1 (inl (c.in_err-new.field-0.0, c.in_err-new.ensures, found.2))

pub returns-in_err-merge : goal.returns-in_err-merge
returns-in_err-merge g c =
    let found = err_from_is_err_and c.from_residual-in_err-merge.result c.from_residual-in_err-merge.ensures.1 in
    let fault = c.in_err-merge.field-0.0 in
    let none = subst (λ (os : List OpenSegment). PlansMerged (view c.self.inside.manifest) os c.args.from c.args.count c.in_ok-new.new (Err fault)) c.deref.ensures.value c.in_err-merge.ensures in
    rw found.1 (subst (λ (v : VolumeView g.row.D.Denot). PlansPrepared v.body v.opened c.args.from c.args.count c.args.prepared.now (Err found.0)) c.self.view_is
    (inr (c.in_ok-new.new, c.in_ok-new.ensures, inl (fault, none, found.2))))

pub returns-then-documents_in-documents_left : goal.returns-then-documents_in-documents_left
returns-then-documents_in-documents_left g c =
    let body = view c.self.inside.manifest in
    let opened = c.self.inside.opened.items in
    let new = c.in_ok-new.new in
    let made : PlansMerged body opened c.args.from c.args.count new (Ok c.in_ok-merge.merge) = rw c.deref.ensures.value at c.in_ok-merge.ensures in
    rw (sym c.self.view_is) (inr (new, c.in_ok-new.ensures, inr (c.in_ok-merge.merge, made, omega (arith, c.if-documents_in-documents_left.true, c.documents_in.ensures, c.documents_left.ensures, run_left opened c.deref-2.result.now c.args.from c.args.count c.deref-2.ensures.value, left_planned body opened c.args.from c.args.count new c.in_ok-merge.merge made), refl)))

pub returns : goal.returns
returns g c =
    let body = view c.self.inside.manifest in
    let opened = c.self.inside.opened.items in
    let new = c.in_ok-new.new in
    let made : PlansMerged body opened c.args.from c.args.count new (Ok c.in_ok-merge.merge) = rw c.deref.ensures.value at c.in_ok-merge.ensures in
    rw (sym c.self.view_is) (new, c.in_ok-new.ensures, made, omega (arith, c.if-documents_in-documents_left.false, c.documents_in.ensures, c.documents_left.ensures, run_left opened c.deref-2.result.now c.args.from c.args.count c.deref-2.ensures.value, left_planned body opened c.args.from c.args.count new c.in_ok-merge.merge made))

-- the run lies within the open segments
there : (g : given.Over) (c : goal.After-deref-2 g) → c.args.from + c.args.count ≤ length c.deref-2.result.now
there g c =
    run_within c.args.from c.args.count _ _ _ c.self.invariant.0.opened c.deref-2.ensures.value (subst (λ (v : VolumeView g.row.D.Denot). c.args.from + c.args.count ≤ length v.body.entries) (sym c.self.view_is) c.requires.within)

pub offset_bounds-deref-from : goal.offset_bounds-deref-from
offset_bounds-deref-from g c = omega (arith, there g c, c.deref-2.type_inv.1)

pub slice_bounds-documents_left-end : goal.slice_bounds-documents_left-end
slice_bounds-documents_left-end g c = omega (arith, there g c)
