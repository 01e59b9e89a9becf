-- A merge of what the entries stand for loses no document.
use Rattle.std.proofs.Common.{◌≡◌, ℕ, ◌+◌, ◌-◌, ◌<◌, ◌++◌, false, true, List, [], ◌∷◌, length, map, refl, sym, ◌∙◌, ap, subst, arith, drop, not, take, Option, Result, Ok, Err, None, Some, filter}
use Rattle.std.specs.List.{sum_by}
use Rattle.std.specs.Prelude.{OnOk}
use Rattle.std.proofs.lemmas.List.Concat.{flat_map-cons}
use Rattle.std.proofs.lemmas.List.{drop-drop, take-append-drop}
use Rattle.std.proofs.lemmas.List.Sums.{sum_by-append, sum_by-cons}
use Rattle.pk_disk.specs.declared.disk.Disk.{Ghosts}
use Rattle.pk_manifest.specs.Sound.{named}
use Rattle.pk_model.specs.Collection.{Collection, Doc, IsCollection}
use Rattle.pk_model.specs.declared.commands.Refusal.TheVariants.{Damaged}
use Rattle.pk_join.specs.declared.input.MergeInput.{MergeInput}
use Rattle.pk_layout.specs.Change.{changed}
use Rattle.pk_layout.specs.Merging.{AreMerged, IsMergedOpen, PlansMerge, PlansMerged, extents_in, run_of}
use Rattle.pk_layout.specs.declared.merging.MergePlan.{MergePlan}
use Rattle.pk_layout.specs.declared.merging.NewSegment.{NewSegment}
use Rattle.pk_manifest.specs.Spelling.{Body}
use Rattle.pk_segment.specs.Opened.{count_of}
use Rattle.pk_open.specs.declared.opened.OpenSegment.{OpenSegment}
use Rattle.pk_open.specs.Opened.{AreOpenOf, left_of, present, with_deleted}
use Rattle.pk_open.proofs.LookUpLemmas.{count_all}
use Rattle.pk_replace.specs.declared.stream.StreamFault.{StreamFault}
use Rattle.pk_state.specs.Committed.{Committed, Stored, collection_of, lists, live_in, live_of, whole_of}
use Rattle.pk_state.specs.Writing.{after_merge, replaced, segment_writes, table_writes, with_table}
use Rattle.pk_state.proofs.MergeLemmas.{collection_tabled, front_placed, live_merged, whole_tabled}
use Rattle.pk_state.proofs.StateLemmas.{whole_merged}
use Rattle.pk_store.specs.declared.writing.RunPlan.{RunPlan}
use Rattle.pk_store.specs.Carrying.{EndsAs}
use Rattle.pk_store.specs.Losing.{LosesNone, committed_left, merged_left}
use Rattle.pk_store.specs.Merging.{PlansRun}
use Rattle.pk_store.specs.Refusing.{refused}
use Rattle.pk_store.specs.View.{StandFor, VolumeView, committed_by}
use Rattle.pk_layout.specs.declared.planning.Plan.{Plan}

-- the open segment without its pending deletions
abbrev settled : OpenSegment → OpenSegment
settled o = record { entry = o.entry; segment = o.segment; dead = o.dead; deleted = o.dead }

settled_of : (os : List OpenSegment) (stored : List Stored) → AreOpenOf os stored → AreOpenOf (map settled os) stored
settled_of [] [] are = tt
settled_of [] (s ∷ stored) are = absurd are
settled_of (o ∷ os) [] are = absurd are
settled_of (o ∷ os) (s ∷ stored) are = (
  record {
    segment = are.0.segment;
    dictionary = are.0.dictionary;
    dead = are.0.dead;
    kept = λ n is. subst (λ (ns : List ℕ). lists n ns ≡ true) (sym are.0.dead) is;
    names = λ n is. are.0.names n (are.0.kept n (subst (λ (ns : List ℕ). lists n ns ≡ true) are.0.dead is));
    posting = are.0.was;
    was = are.0.was;
  },
  settled_of os stored are.1,
)

left_settled : (os : List OpenSegment) → sum_by left_of (map settled os) ≡ sum_by committed_left os
left_settled [] = refl
left_settled (o ∷ os) =
    sum_by-cons left_of (settled o) (map settled os) ∙ ap (λ n. committed_left o + n) (left_settled os)
    ∙ sym (sum_by-cons committed_left o os)

live_settled : (os : List OpenSegment) (stored : List Stored) → AreOpenOf os stored → live_in (present (map settled os) stored) ≡ live_in stored
live_settled [] [] are = refl
live_settled [] (s ∷ stored) are = absurd are
live_settled (o ∷ os) [] are = absurd are
live_settled (o ∷ os) (s ∷ stored) are =
    flat_map-cons live_of (with_deleted (settled o) s) (present (map settled os) stored)
    ∙ ap (λ (ns : List ℕ). filter (λ d. not (lists d.number ns)) s.documents ++ live_in (present (map settled os) stored)) are.0.dead
    ∙ ap (λ (ds : List Doc). live_of s ++ ds) (live_settled os stored are.1)
    ∙ sym (flat_map-cons live_of s stored)

-- the counts are those of what is committed
counted : (os : List OpenSegment) (c : Committed) → AreOpenOf os c.stored → IsCollection (whole_of c) → sum_by committed_left os ≡ length (live_in c.stored)
counted os c are numbers =
    sym (left_settled os) ∙ count_all (map settled os) c (settled_of os c.stored are) numbers
    ∙ ap length (live_settled os c.stored are)

module _ {D : Type 0} (d : Ghosts D) (v w : VolumeView D) (from n : ℕ) (inputs : List MergeInput) (r : RunPlan) (planned : PlansRun d v from n inputs (Ok r) w) where
  -- a planned merge of what is committed leaves all of it
  keeps_all : d.honest → (stored : List Stored) → StandFor d v stored → v.reopen ≡ false → IsCollection (whole_of (committed_by v stored)) → LosesNone v.opened (changed r.merge.plan.change v.opened)
  keeps_all honest stored stand clear numbers =
      let old = committed_by v stored in
      let plan : PlansMerge v.body v.opened stored from n r.merge = (planned.plans honest stored stand clear numbers).0 in
      let after = after_merge old from n (extents_in r.merge.place) in
      let new = with_table plan.table after in
      let whole : IsCollection (whole_of new) = subst IsCollection (sym (whole_tabled plan.table after)) (whole_merged old numbers from n (extents_in r.merge.place)) in
      let same : collection_of new ≡ collection_of old = collection_tabled plan.table after
      ∙ live_merged old from n (extents_in r.merge.place)
      (front_placed v.body.units (named v.body) (segment_writes (live_in (run_of from n stored))) (table_writes (length v.body.entries - n + length (segment_writes (live_in (run_of from n stored))))) (extents_in r.merge.place) plan.table plan.before plan.placed) in
      let was = counted v.opened old stand.opened numbers in
      let now = counted (changed r.merge.plan.change v.opened) new plan.goes.opened whole in
      omega (arith, was, now, ap (λ (c : Collection). length c.documents) same)

  -- so one that would lose some is damaged, and no store that means a collection has it
  pub plans_short : sum_by committed_left (changed r.merge.plan.change v.opened) < sum_by committed_left v.opened → PlansRun d v from n inputs (Err Damaged) w
  plans_short short = record {
    plans = λ honest stored stand clear numbers. absurd (omega (arith, short, keeps_all honest stored stand clear numbers));
    rightly = (None, tt);
    ready = planned.ready;
    keeps = planned.keeps;
    blocks = planned.blocks;
    cause = planned.cause;
  }

-- ---- by what is read at opening

-- with a run replaced the sum has that of what replaces it in the place of its own
sum_replaced : {X : Type 0} (f : X → ℕ) (from n : ℕ) (new xs : List X)
    → sum_by f (replaced from n new xs) + sum_by f (run_of from n xs) ≡ sum_by f xs + sum_by f new
sum_replaced f from n new xs =
    let back = drop from xs in
    let all = ap (sum_by f) (sym (take-append-drop from xs)) ∙ sum_by-append f (take from xs) back in
    let rest = ap (sum_by f) (sym (take-append-drop n back)) ∙ sum_by-append f (take n back) (drop n back) in
    omega (arith, all, rest, ap (sum_by f) (drop-drop n from xs), sum_by-append f (take from xs) (new ++ drop (from + n) xs), sum_by-append f new (drop (from + n) xs))

-- a merged segment has as many as it says
left_merged : (opened : List OpenSegment) (new : Option NewSegment) (merged : List OpenSegment) → AreMerged opened new merged → sum_by committed_left merged ≡ merged_left new
left_merged opened None merged are = ap (sum_by committed_left) are
left_merged opened (Some new) merged are =
    ap (sum_by committed_left) are.1 ∙ sum_by-cons committed_left are.0 [] ∙ one are.0 are.2
  where
    one : (o : OpenSegment) → IsMergedOpen opened new o → count_of o.segment - length o.dead + 0 ≡ count_of new.segment
    one o is = omega (arith, ap count_of is.segment, ap length is.no_list)

-- so a plan leaves as many as there were, but for the run
pub left_planned : (b : Body) (opened : List OpenSegment) (from n : ℕ) (new : Option NewSegment) (m : MergePlan) → PlansMerged b opened from n new (Ok m)
    → sum_by committed_left (changed m.plan.change opened) + sum_by committed_left (run_of from n opened) ≡ sum_by committed_left opened + merged_left new
left_planned b opened from n new m plans =
    omega (arith, ap (sum_by committed_left) plans.6.opened_is, sum_replaced committed_left from n plans.0 opened, left_merged (run_of from n opened) new plans.0 plans.1)

-- what was carried out are the segments of the plan
pub carried_none : {D T : Type 0} (d : Ghosts D) (old mid new : VolumeView D) (p : Plan) (x : Result T StreamFault) → EndsAs d x mid p new → mid.opened ≡ old.opened → LosesNone old.opened (changed p.change old.opened) → OnOk (refused x) (LosesNone old.opened new.opened)
carried_none d old mid new p (Ok done) ends same none = subst (λ (os : List OpenSegment). LosesNone old.opened os) (sym (ends.0.opened ∙ ap (changed p.change) same)) none
carried_none d old mid new p (Err fault) ends same none = tt
