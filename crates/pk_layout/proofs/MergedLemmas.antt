-- THE PLAN OF A MERGE: what comes next is the live documents of a run in one segment, or none.
use Rattle.std.proofs.Common.{◌≡◌, ◌⊎◌, inl, inr, ⊎_elim, ℕ, ◌+◌, ◌-◌, ◌<◌, ◌≤◌, ◌++◌, List, [], ◌∷◌, length, map, refl, sym, ◌∙◌, ap, subst, arith, Bool, ◌||◌, Vec, Global, Ok, Err, Option, Some, None}
use Rattle.std.proofs.Math.ListN.{replicate}
use Rattle.std.proofs.lemmas.List.{length-replicate, nil_from_length}
use Rattle.std.specs.Prelude.{All}
use Rattle.std.proofs.lemmas.List.Elements.{All-cons, All-nil, All-same}
use Rattle.pk_disk.specs.Disk.{in_range}
use Rattle.pk_disk.specs.Units.{start_of, units_in}
use Rattle.pk_disk.specs.declared.units.Extent.{Extent}
use Rattle.pk_manifest.specs.declared.manifest.Part.{Part as Entry}
use Rattle.pk_manifest.specs.Sound.{IsBody, named, segment_limit}
use Rattle.pk_manifest.specs.Spelling.{Body}
use Rattle.pk_manifest.proofs.Sound.{few_in, says_sound}
use Rattle.pk_model.specs.Collection.{Doc, IsCollection}
use Rattle.pk_model.specs.Limits.{end_of_ids, max_segments}
use Rattle.pk_replace.specs.Claims.{AreApart, Claim, Each, IsAmong, IsBehind, IsInside, IsUntouched, places}
use Rattle.pk_replace.proofs.ClaimLemmas.{each_weaker}
use Rattle.pk_open.specs.declared.opened.OpenSegment.{OpenSegment}
use Rattle.pk_open.specs.Opened.{AreOpenOf, entries_of, present}
use Rattle.pk_open.proofs.PlaceLemmas.{entries_many}
use Rattle.pk_space.specs.Places.{FullAs, PlacedAs}
use Rattle.pk_state.specs.Committed.{Committed, Stored, all_in, live_in, whole_of}
use Rattle.pk_state.specs.Kept.{AreEntries, all_claims, claims_of}
use Rattle.pk_state.specs.Writing.{after_merge, new_entry, new_stored, replaced, table_writes, with_table}
use Rattle.pk_state.proofs.MemberLemmas.{Above}
use Rattle.pk_state.proofs.WholeLemmas.{collection_above}
use Rattle.pk_layout.specs.declared.fault.LayoutFault.{LayoutFault}
use Rattle.pk_layout.specs.declared.fault.LayoutFault.TheVariants.{TooLarge, Full, Damaged, Memory}
use Rattle.pk_layout.specs.declared.merging.MergePlan.{MergePlan}
use Rattle.pk_layout.specs.declared.merging.NewSegment.{NewSegment}
use Rattle.pk_layout.specs.declared.next.Next.{Next}
use Rattle.pk_layout.specs.declared.next.NextPlan.{NextPlan}
use Rattle.pk_layout.specs.declared.next.NextSegment.{NextSegment}
use Rattle.pk_layout.specs.declared.planning.Plan.{Plan}
use Rattle.pk_layout.specs.Change.{changed}
use Rattle.pk_layout.specs.Faults.{layout_refusal}
use Rattle.pk_layout.specs.Merging.{AreMerged, IsNewOf, IsSized, PlansMerge, PlansMergeAs, PlansMergeRightly, PlansMerged, PlansRightly, body_merged, bytes_in, count_merged, extents_in, lengths_in, lengths_merged, merge_touches, pieces_behind, run_of}
use Rattle.pk_layout.specs.Next.{HasPending, PlansNext, lists_in, new_in, opened_new}
use Rattle.pk_layout.specs.Plan.{GoesOn, GoesTo, IsGrown, IsPlanOf, PromisesTable, body_replaced, entry_in, laid_in, new_segments, settled_in, table_bytes, tabled}
use Rattle.pk_layout.proofs.LeftLemmas.{none_now, not_too_many, one_now, pending_names}
use Rattle.pk_layout.proofs.PlanLemmas.{IsNext, behind_apart, behind_inside, behind_missed, docs_long, entries_new, first_placed, new_fits, next_goes, next_goes_on, next_plan, next_tabled, open_new, opened_entries, sized_of, stored_new}
use Rattle.pk_layout.proofs.ReplacedLemmas.{above_run, now_replaced, open_run}
use Rattle.pk_layout.proofs.SettledLemmas.{each_old}
use Rattle.pk_layout.proofs.TableLemmas.{among_either, places_append, with_tabled}

-- ---- as what comes next is planned

-- how many entries are left
few_left : (b : Body) (n : ℕ) (new : Option NewSegment) → length b.entries ≤ max_segments → 1 ≤ n → n ≤ length b.entries → count_merged b n new ≤ max_segments
few_left b n None few some within = omega (arith, few)
few_left b n (Some new) few some within = omega (arith, few, some, within)

new_same : (os : List OpenSegment) (new : Option NewSegment) (s : Option NextSegment) → HasPending os new s → new_in s ≡ new
new_same os None s has = ap new_in has
new_same os (Some new) s has = ap new_in has.1

are_merged : (b : Body) (os : List OpenSegment) (new : Option NewSegment) (s : Option NextSegment) (place : Option Extent) → HasPending os new s → length (extents_in place) ≡ length (lengths_in (new_in s)) → AreMerged os new (opened_new b s place)
are_merged b os None s place has same = ap (λ (t : Option NextSegment). opened_new b t place) has
are_merged b os (Some new) s None has same = absurd (omega (arith, same, ap (λ (t : Option NextSegment). length (lengths_in (new_in t))) has.1))
are_merged b os (Some new) s (Some e) has same = (
  record { entry = new_entry b e; segment = new.segment; dead = []; deleted = has.0 },
  ap (λ (t : Option NextSegment). opened_new b t (Some e)) has.1,
  record { segment = refl; no_list = refl; deleted = has.2; posting = has.3 },
)

-- a merge writes no list
module _ (b : Body) (os : List OpenSegment) (even : entries_of os ≡ b.entries) (x : Next) (number : x.next_number ≡ b.next_number) (none : x.lists.items ≡ []) (new : Option NewSegment) (has : HasPending (run_of x.run.from x.run.count os) new x.segment) where
  same_new : new_in x.segment ≡ new
  same_new = new_same (run_of x.run.from x.run.count os) new x.segment has

  no_lists : lists_in x ≡ []
  no_lists = ap (map (λ (w : Vec ℕ Global). w.items)) none

  pub merge_planned : (r : NextPlan) → PlansNext b os x (Ok r) → PlansMerged b os x.run.from x.run.count new (Ok (record { plan = r.plan; place = r.place; pieces = r.pieces }))
  merge_planned r (xs, ts, same, before, placed, plan, pieces) =
      let merged = opened_new b x.segment r.place in
      let no : xs ≡ [] = nil_from_length xs (before ∙ ap length no_lists) in
      let is_plan = subst (λ us. IsPlanOf (tabled ts (body_replaced b x.next_number x.run.from x.run.count r.place (entries_of (settled_in os us)))) os (replaced x.run.from x.run.count merged (settled_in os us)) r.plan) no plan in (
        merged,
        are_merged b (run_of x.run.from x.run.count os) new x.segment r.place has same,
        opened_entries b x.segment r.place same,
        ts,
        same ∙ ap (λ m. length (lengths_in m)) same_new,
        subst (λ m. PlacedAs b.units (named b) (lengths_merged b x.run.count m) (extents_in r.place ++ ts)) same_new
            (subst (λ us. PlacedAs b.units (named b) (lengths_merged b x.run.count (new_in x.segment)) (extents_in r.place ++ (us ++ ts))) no
            (subst (λ (ls : List (List ℕ)). PlacedAs b.units (named b) (lengths_in (new_in x.segment) ++ (map length ls ++ table_writes (count_merged b x.run.count (new_in x.segment)))) (extents_in r.place ++ (xs ++ ts))) no_lists placed)),
        subst (λ k. IsPlanOf (tabled ts (body_replaced b k x.run.from x.run.count r.place b.entries)) os (replaced x.run.from x.run.count merged os) r.plan) number
            (subst (λ (es : List Entry). IsPlanOf (tabled ts (body_replaced b x.next_number x.run.from x.run.count r.place es)) os (replaced x.run.from x.run.count merged os) r.plan) even is_plan),
        pieces ∙ (λ i. laid_in (no i ++ ts) (no_lists i ++ table_bytes (replaced x.run.from x.run.count (entry_in b r.place) (entries_of (settled_in os (no i)))))) ∙ ap (λ (es : List Entry). laid_in ts (table_bytes (replaced x.run.from x.run.count (entry_in b r.place) es))) even,
      )

-- ---- what is written

-- bytes of these lengths: any, and those of the documents
abbrev any_bytes : Option NewSegment → List (List ℕ)
any_bytes None = []
any_bytes (Some new) = replicate new.bytes 0 ∷ []

any_long : (new : Option NewSegment) → map length (any_bytes new) ≡ lengths_in new
any_long None = refl
any_long (Some new) = ap (λ n. n ∷ []) (length-replicate {A = ℕ} new.bytes 0)

-- placed bytes take the positions of their extents
places_laid : (units : ℕ) (taken : List Extent) (ws : List (List ℕ)) (es : List Extent) → PlacedAs units taken (map length ws) es → (p : ℕ) → places (laid_in es ws) p ≡ bytes_in es p
places_laid units taken [] [] placed p = refl
places_laid units taken [] (e ∷ es) placed p = absurd placed
places_laid units taken (w ∷ ws) [] placed p = absurd placed
places_laid units taken (w ∷ ws) (e ∷ es) placed p =
    ap (λ n. in_range (start_of e) n p || places (laid_in es ws) p) (sym placed.0.long)
    ∙ ap (λ (h : Bool). in_range (start_of e) e.bytes p || h) (places_laid units (e ∷ taken) ws es placed.1 p)

-- what promises more
goes_weaker : (touched : ℕ → Bool) (P Q : Claim → Type 0) → ((c : Claim) → P c → Q c) → (os : List OpenSegment) (p : Plan) (old new : Committed) → GoesTo touched P os p old new → GoesTo touched Q os p old new
goes_weaker touched P Q f os p old new goes = record {
  body = goes.body;
  entries = goes.entries;
  opened = goes.opened;
  next = λ s. let next = goes.next s in record {
    untouched = next.untouched;
    among = each_weaker (λ c. IsAmong c (all_claims old) ⊎ (P c × IsBehind c)) (λ c. IsAmong c (all_claims old) ⊎ (Q c × IsBehind c)) (λ c either. ⊎_elim (λ was. inl was) (λ made. inr (f c made.0, made.1)) either) (all_claims new) next.among;
  };
}

abbrev committed_with : Body → List Stored → Committed
committed_with b stored = record { body = b; stored = stored }

merged_grown : (os : List OpenSegment) (new : Option NewSegment) (merged : List OpenSegment) → AreMerged os new merged → All IsGrown merged
merged_grown os None merged are = All-same IsGrown merged [] are (All-nil IsGrown)
merged_grown os (Some new) merged are =
    let o = are.0 in
    let few : IsGrown o = omega (arith, ap length are.2.no_list) in
    All-same IsGrown merged (o ∷ []) are.1 (All-cons IsGrown o [] few (All-nil IsGrown))

-- ---- IT IS A PLAN, and takes what is committed over

module _ (size : ℕ) (b : Body) (is : IsBody (units_in size) b) (generation : b.generation < end_of_ids) (ids : b.next_segment < end_of_ids) (from n : ℕ) (some : 1 ≤ n) (within : from + n ≤ length b.entries)
    (opened : List OpenSegment) (even : entries_of opened ≡ b.entries) (grown : All IsGrown opened) where
  module _ (new : Option NewSegment) (m : MergePlan) (sized : IsSized new) (merged : List OpenSegment) (are_merged' : AreMerged (run_of from n opened) new merged) (entries_now : entries_of merged ≡ entry_in b m.place) (ts : List Extent) (same : length (extents_in m.place) ≡ length (lengths_in new))
      (placed : PlacedAs b.units (named b) (lengths_merged b n new) (extents_in m.place ++ ts)) (plan : IsPlanOf (tabled ts (body_merged b from n m.place)) opened (replaced from n merged opened) m.plan) (pieces : pieces_behind m ≡ laid_in ts (table_bytes (body_merged b from n m.place).entries)) where
    next : IsNext size b opened from n new [] b.next_number m.place [] ts merged
    next =
        let says = says_sound (units_in size) b is.sound in
        let last = is.next_number in record {
          is = is;
          generation = generation;
          ids = ids;
          even = even;
          grown = grown;
          within = omega (arith, within, ap length even, entries_many opened);
          few = few_left b n new (few_in (units_in size) b says) some (omega (arith, within));
          some = says.next_number;
          most = omega (arith, last);
          sized = sized;
          can = All-nil (λ (w : List ℕ). (5 ≤ length w) × (length w ≤ segment_limit));
          same = same;
          before = refl;
          placed = placed;
          entries = entries_now;
          fresh_grown = merged_grown (run_of from n opened) new merged are_merged';
        }

    abbrev body : List Entry → Body
    body es = tabled ts (body_replaced b b.next_number from n m.place es)

    next_plans : IsPlanOf (body (entries_of opened)) opened (replaced from n merged opened) m.plan
    next_plans = subst (λ (es : List Entry). IsPlanOf (body es) opened (replaced from n merged opened) m.plan) (sym even) plan

    abbrev behind : List Claim
    behind = laid_in ts (table_bytes (replaced from n (entry_in b m.place) (entries_of opened)))

    behind_is : behind ≡ pieces_behind m
    behind_is = ap (λ (es : List Entry). laid_in ts (table_bytes (replaced from n (entry_in b m.place) es))) even ∙ sym pieces

    -- all positions that are written, with any bytes of the segment
    touched : (segs : List (List ℕ)) → map length segs ≡ lengths_in new → places (laid_in (extents_in m.place) segs ++ behind) ≡ merge_touches m
    touched segs long = λ i p. (places_append (laid_in (extents_in m.place) segs) behind p
        ∙ (λ j. places_laid (units_in size) (named b) segs (extents_in m.place) (subst (λ ns. PlacedAs (units_in size) (named b) ns (extents_in m.place)) (sym long) (first_placed next)) p j || places (behind_is j) p)) i

    merge_rightly : PlansRightly size b opened n new m
    merge_rightly = record {
      plan = next_plan next m.plan next_plans;
      goes_on = subst (λ t. GoesOn t b opened m.plan) (touched (any_bytes new) (any_long new)) (next_goes_on next m.plan next_plans (any_bytes new) (any_long new));
      next_number = ap (λ (y : Body). y.next_number) plan.manifest_is;
      table = ts;
      before = same;
      placed = placed;
      follows = record {
        inside = subst (Each (IsInside size)) behind_is (behind_inside next);
        apart = subst AreApart behind_is (behind_apart next);
        missed = λ c lies. subst (λ cs. IsUntouched (places cs) c) behind_is (behind_missed next c lies);
      };
      tabled = subst (λ cs. PromisesTable (λ c. IsAmong c cs) m.plan) behind_is (next_tabled next m.plan next_plans);
    }

    merge_goes : (docs : List Doc) → IsNewOf docs new → (stored made : List Stored) → AreEntries b.entries stored → AreOpenOf opened stored → AreOpenOf merged made → AreEntries (entry_in b m.place) made → Each (λ c. IsAmong c (laid_in (extents_in m.place) (new_segments docs))) (claims_of (entry_in b m.place) made)
        → GoesTo (merge_touches m) (λ c. IsAmong c (laid_in (extents_in m.place) (new_segments docs)) ⊎ IsAmong c (pieces_behind m)) opened m.plan (committed_with b stored) (committed_with (tabled ts (body_merged b from n m.place)) (replaced from n made stored))
    merge_goes docs new_is stored made entries are stand fresh among =
        let laid = laid_in (extents_in m.place) (new_segments docs) in
        let long = docs_long docs ∙ sym (new_fits docs new new_is).0 in
        let olds = claims_of b.entries stored in
        let promise : Claim → Type 0 = λ c. IsAmong c laid ⊎ IsAmong c (pieces_behind m) in
        let own = subst (λ (es : List Entry). AreEntries es stored) (sym even) entries in
        let kept = subst (λ (es : List Entry). Each (λ c. IsAmong c olds ⊎ IsAmong c []) (claims_of es stored)) (sym even) (each_old olds olds [] (λ c k. k)) in
        subst (λ (es : List Entry). GoesTo (merge_touches m) promise opened m.plan (committed_with b stored) (committed_with (body es) (replaced from n made stored))) even
        (subst (λ t. GoesTo t promise opened m.plan (committed_with b stored) (committed_with (body (entries_of opened)) (replaced from n made stored))) (touched (new_segments docs) long)
        (goes_weaker (places (laid ++ behind)) (λ c. IsAmong c (laid ++ behind)) promise (λ c is. among_either c laid (pieces_behind m) (subst (λ cs. IsAmong c (laid ++ cs)) behind_is is)) opened m.plan (committed_with b stored) (committed_with (body (entries_of opened)) (replaced from n made stored))
        (next_goes next m.plan next_plans (new_segments docs) long stored stored made entries own are kept fresh stand among)))

after_run : (b : Body) (stored : List Stored) (from n : ℕ) (place : Option Extent)
    → after_merge (committed_with b stored) from n (extents_in place) ≡ committed_with (body_merged b from n place) (replaced from n (stored_new (live_in (run_of from n stored)) place) stored)
after_run b stored from n None = refl
after_run b stored from n (Some e) = refl

-- of a run of open segments, and what its entries stand for
module _ (opened : List OpenSegment) (stored : List Stored) (are : AreOpenOf opened stored) (rise : Above 0 (all_in stored)) where
  abbrev left : List Doc
  left = live_in stored

  open_merged : (units : ℕ) (taken : List Extent) (new : Option NewSegment) (merged : List OpenSegment) (place : Option Extent) → IsNewOf left new → AreMerged opened new merged → PlacedAs units taken (lengths_in new) (extents_in place)
      → AreOpenOf merged (stored_new left place) × (live_in (present merged (stored_new left place)) ≡ live_in (present opened stored))
  open_merged units taken None merged None is m placed = (subst (λ os. AreOpenOf os []) (sym m) tt, ap (λ os. live_in (present os [])) m ∙ none_now opened stored are rise is)
  open_merged units taken None merged (Some e) is m placed = absurd placed
  open_merged units taken (Some new) merged None is m placed = absurd placed
  open_merged units taken (Some new) merged (Some e) is m placed = (
    subst (λ os. AreOpenOf os (new_stored left ∷ [])) (sym m.1)
        (open_new left new m.0 is m.2.segment m.2.no_list (λ k h. pending_names k opened stored are (sym (m.2.deleted k) ∙ h)) m.2.posting, tt),
    ap (λ os. live_in (present os (new_stored left ∷ []))) m.1 ∙ one_now opened stored left m.0.deleted are rise refl m.2.deleted,
  )

-- IT TAKES WHAT IS COMMITTED OVER
module _ (size : ℕ) (b : Body) (is : IsBody (units_in size) b) (generation : b.generation < end_of_ids) (ids : b.next_segment < end_of_ids) (from n : ℕ) (some : 1 ≤ n) (within : from + n ≤ length b.entries)
    (opened : List OpenSegment) (even : entries_of opened ≡ b.entries) (grown : All IsGrown opened)
    (stored : List Stored) (entries : AreEntries b.entries stored) (are : AreOpenOf opened stored) (numbers : IsCollection (whole_of (record { body = b; stored = stored }))) where
  abbrev run : List Stored
  run = run_of from n stored

  abbrev docs : List Doc
  docs = live_in run

  rise : Above 0 (all_in run)
  rise = above_run from n stored (collection_above (whole_of (record { body = b; stored = stored })) numbers)

  run_open : AreOpenOf (run_of from n opened) run
  run_open = open_run from n opened stored are

  pub merge_plans : (new : Option NewSegment) (m : MergePlan) → IsNewOf docs new → PlansMerged b opened from n new (Ok m) → PlansMerge b opened stored from n m
  merge_plans new m new_is (merged, are_merged', entries_now, ts, same, placed, plan, pieces) =
      let after = after_run b stored from n m.place in
      let fits = new_fits docs new new_is in
      let made = stored_new docs m.place in
      let sized = sized_of docs new new_is in
      let first = first_placed (next size b is generation ids from n some within opened even grown new m sized merged are_merged' entries_now ts same placed plan pieces) in
      let fresh = entries_new b (units_in size) (named b) docs new m.place new_is first in
      let stand = open_merged (run_of from n opened) run run_open rise (units_in size) (named b) new merged m.place new_is are_merged' first in
      let promise : Claim → Type 0 = λ c. IsAmong c (laid_in (extents_in m.place) (new_segments docs)) ⊎ IsAmong c (pieces_behind m) in
      record {
        table = ts;
        before = same ∙ ap length fits.0;
        placed = subst (λ ns. PlacedAs b.units (named b) (ns ++ table_writes (length b.entries - n + length ns)) (extents_in m.place ++ ts)) fits.0 placed;
        fits = fits.1;
        goes = subst (GoesTo (merge_touches m) promise opened m.plan (committed_with b stored)) (with_tabled ts (committed_with (body_merged b from n m.place) (replaced from n made stored)) ∙ ap (with_table ts) (sym after))
            (merge_goes size b is generation ids from n some within opened even grown new m sized merged are_merged' entries_now ts same placed plan pieces docs new_is stored made entries are stand.0 fresh.0 fresh.1);
        now = ap (λ (y : Committed). live_in (present (changed m.plan.change opened) y.stored)) after ∙ ap (λ os. live_in (present os (replaced from n made stored))) plan.opened_is
            ∙ now_replaced from n opened stored are merged made stand.0 stand.1;
      }

  -- or there is none
  pub merge_refused : (new : Option NewSegment) (fault : LayoutFault) → IsNewOf docs new → PlansMerged b opened from n new (Err fault) → PlansMergeAs b opened stored from n (Err (layout_refusal fault))
  merge_refused new (Full need largest) new_is plans =
      let fits = new_fits docs new new_is in
      (fits.1, subst (λ ns. FullAs b.units (named b) (ns ++ table_writes (length b.entries - n + length ns)) need largest) fits.0 plans)
  merge_refused new Memory new_is plans = tt
  merge_refused new Damaged new_is plans = absurd (not_too_many (run_of from n opened) run new run_open rise new_is plans)
  merge_refused new TooLarge new_is plans = absurd plans

-- WHATEVER THE SEGMENTS ARE
module _ (size : ℕ) (b : Body) (is : IsBody (units_in size) b) (generation : b.generation < end_of_ids) (ids : b.next_segment < end_of_ids) (from n : ℕ) (some : 1 ≤ n) (within : from + n ≤ length b.entries)
    (opened : List OpenSegment) (even : entries_of opened ≡ b.entries) (grown : All IsGrown opened) where
  pub planned_rightly : (new : Option NewSegment) (m : MergePlan) → IsSized new → PlansMerged b opened from n new (Ok m) → PlansRightly size b opened n new m
  planned_rightly new m sized (merged, are_merged', entries_now, ts, same, placed, plan, pieces) = merge_rightly size b is generation ids from n some within opened even grown new m sized merged are_merged' entries_now ts same placed plan pieces

-- and where there is no plan
pub refused_rightly : (size : ℕ) (b : Body) (opened : List OpenSegment) (from n : ℕ) (new : Option NewSegment) (fault : LayoutFault) → PlansMerged b opened from n new (Err fault) → PlansMergeRightly size b opened n new (Err (layout_refusal fault))
refused_rightly size b opened from n new (Full need largest) plans = plans
refused_rightly size b opened from n new Memory plans = tt
refused_rightly size b opened from n new Damaged plans = tt
refused_rightly size b opened from n new TooLarge plans = tt
