-- THE PLAN OF A COMMIT: what is built of its documents, and the new lists, come next behind all.
use Rattle.std.proofs.Common.{◌≡◌, ◌⊎◌, ℕ, suc, ◌<◌, ◌≤◌, ◌++◌, true, false, List, [], ◌∷◌, length, length-append, map, refl, sym, ◌∙◌, ap, subst, arith, append-nil, append_assoc, Vec, Global, Option, Some, None, Ok, Err}
use Rattle.std.specs.Prelude.{All}
use Rattle.std.specs.List.{list_any}
use Rattle.std.specs.Option.{ForSome}
use Rattle.std.proofs.lemmas.List.{length-map, map-append}
use Rattle.std.proofs.lemmas.List.Folds.{list_any-append}
use Rattle.pk_disk.proofs.Ranges.{or_both}
use Rattle.pk_disk.specs.Units.{units_in}
use Rattle.pk_disk.specs.declared.units.Extent.{Extent}
use Rattle.pk_manifest.specs.Sound.{IsBody, named, segment_limit}
use Rattle.pk_manifest.specs.declared.manifest.Part.{Part as Entry}
use Rattle.pk_manifest.specs.Spelling.{Body, view}
use Rattle.pk_manifest.proofs.Sound.{few_in, says_sound}
use Rattle.pk_model.specs.Collection.{Doc}
use Rattle.pk_model.specs.Limits.{end_of_numbers, max_segments}
use Rattle.pk_open.specs.declared.opened.OpenSegment.{OpenSegment}
use Rattle.pk_open.specs.Opened.{AreOpenOf, entries_of, pends, present}
use Rattle.pk_open.proofs.PlaceLemmas.{entries_many}
use Rattle.pk_replace.specs.Claims.{AreApart, Claim, Each, IsAmong, IsBehind, IsInside, claim_of, places}
use Rattle.pk_replace.specs.declared.pieces.Piece.{Piece}
use Rattle.pk_replace.proofs.ClaimLemmas.{each_weaker}
use Rattle.pk_space.specs.Places.{FullAs, PlacedAs}
use Rattle.pk_state.specs.Committed.{Committed, Stored}
use Rattle.pk_state.specs.Kept.{AreEntries, claims_of, table_claims}
use Rattle.pk_state.specs.Writing.{new_entry, new_stored, next_body, replaced, segment_writes, table_writes, with_table}
use Rattle.pk_segment.specs.declared.building.Built.{Built}
use Rattle.pk_layout.specs.declared.committing.CommitPlan.{CommitPlan}
use Rattle.pk_layout.specs.declared.fault.LayoutFault.{LayoutFault}
use Rattle.pk_layout.specs.declared.fault.LayoutFault.TheVariants.{TooLarge, Full, Damaged, Memory}
use Rattle.pk_layout.specs.declared.merging.NewSegment.{NewSegment}
use Rattle.pk_layout.specs.declared.next.Next.{Next}
use Rattle.pk_layout.specs.declared.next.NextPlan.{NextPlan}
use Rattle.pk_layout.specs.Merging.{IsNewOf, count_merged, extents_in, lengths_in}
use Rattle.pk_layout.specs.Next.{CanFollow, PlansNext, built_bytes, fresh_in, new_in, opened_new, run_behind}
use Rattle.pk_layout.specs.Plan.{AreSettled, CanBeWritten, GoesOn, GoesTo, IsBuiltOf, IsGrown, IsPlanOf, LeavesRoom, PlansAs, PlansCommit, body_replaced, commit_bytes, commit_count, commit_to, entry_in, laid_in, lengths_with, new_lists, new_segments, pieces_of, settled_in, table_bytes, tabled}
use Rattle.pk_layout.proofs.ChangeLemmas.{behind_all}
use Rattle.pk_layout.proofs.PlacingLemmas.{spelled_length}
use Rattle.pk_layout.proofs.PlanLemmas.{IsNext, docs_long, entries_new, first_placed, lists_placed, new_fits, next_goes, next_goes_on, next_place, next_plan, next_tabled, open_new, opened_entries, opened_grown, posting_none, sized_of, stored_new}
use Rattle.pk_layout.proofs.SettledLemmas.{among_back, claims_settled, entries_settled, settled_are, settled_long, settled_open}
use Rattle.pk_layout.proofs.TableLemmas.{with_tabled}

-- ---- what is built

-- it may be placed
pub built_short : (docs : List Doc) (built : Option Built) → IsBuiltOf docs built → ForSome built (λ s. length s.bytes.items ≤ segment_limit)
built_short docs None is = λ s same. absurd (let no : None ≡ Some s = same in cc)
built_short docs (Some built) is = λ s same. subst (λ (t : Built). length t.bytes.items ≤ segment_limit) (let one : built ≡ s = cc in one) (spelled_length built.bytes.items docs is.0).1

built_new : (docs : List Doc) (built : Option Built) → IsBuiltOf docs built → IsNewOf docs (new_in (fresh_in built))
built_new docs None is = is
built_new docs (Some built) is =
    let long = spelled_length built.bytes.items docs is.0 in
    record { are = is.0.are; long = long.0; fits = long.1; opened = is.1 }

built_same : (docs : List Doc) (built : Option Built) → IsBuiltOf docs built → built_bytes built ≡ new_segments docs
built_same docs None is = ap new_segments (sym is)
built_same [] (Some built) is = absurd (let h : 0 < 0 = is.0.are.some in omega (arith, h))
built_same (d ∷ docs) (Some built) is = ap (λ (bs : List ℕ). bs ∷ []) is.0.same

built_open : (b : Body) (units : ℕ) (taken : List Extent) (docs : List Doc) (built : Option Built) (place : Option Extent) → IsBuiltOf docs built → PlacedAs units taken (lengths_in (new_in (fresh_in built))) (extents_in place) → AreOpenOf (opened_new b (fresh_in built) place) (stored_new docs place)
built_open b units taken docs None None is placed = tt
built_open b units taken docs None (Some e) is placed = absurd placed
built_open b units taken docs (Some built) None is placed = absurd placed
built_open b units taken docs (Some built) (Some e) is placed =
    let new : NewSegment = record { bytes = length built.bytes.items; segment = built.segment } in
    (open_new docs new (record { entry = new_entry b e; segment = built.segment; dead = []; deleted = [] }) (built_new docs (Some built) is) refl refl (λ n h. absurd (let no : false ≡ true = h in cc)) posting_none, tt)

built_settled : (b : Body) (built : Option Built) (place : Option Extent) → AreSettled (opened_new b (fresh_in built) place)
built_settled b None place = refl
built_settled b (Some built) None = refl
built_settled b (Some built) (Some e) = refl

-- ---- what comes next

settled_append : (os us : List OpenSegment) → AreSettled os → AreSettled us → AreSettled (os ++ us)
settled_append os us a b = list_any-append pends os us ∙ or_both (list_any pends os) (list_any pends us) a b

present_long : (os : List OpenSegment) (stored : List Stored) → AreOpenOf os stored → length (present os stored) ≡ length os
present_long [] stored are = refl
present_long (o ∷ os) [] are = absurd are
present_long (o ∷ os) (s ∷ stored) are = ap suc (present_long os stored are.1)

-- behind all, a segment of these documents, and none where there is none
abbrev pub commit_next : List OpenSegment → Option Built → Vec (Vec ℕ Global) Global → ℕ → Next
commit_next os built lists next = record { run = run_behind os; segment = fresh_in built; lists = lists; next_number = next }

count_many : (b : Body) (docs : List Doc) (new : Option NewSegment) → lengths_in new ≡ segment_writes docs → count_merged b 0 new ≡ commit_count b.entries docs
count_many b [] new same = omega (arith, ap length same)
count_many b (d ∷ docs) new same = omega (arith, ap length same)

few_after : (b : Body) (docs : List Doc) → length b.entries ≤ max_segments → (0 < length docs → length b.entries < max_segments) → commit_count b.entries docs ≤ max_segments
few_after b [] few room = few
few_after b (d ∷ docs) few room = let left : length b.entries < max_segments = room (omega arith) in omega (arith, left)

few_commit : (units : ℕ) (b : Body) (docs : List Doc) (new : Option NewSegment) → IsBody units b → LeavesRoom b (length docs) → IsNewOf docs new → count_merged b 0 new ≤ max_segments
few_commit units b docs new is leaves new_is = omega (arith, count_many b docs new (new_fits docs new new_is).0, few_after b docs (few_in units b (says_sound units b is.sound)) leaves.2)

-- IT MAY FOLLOW
pub commit_follows : (units : ℕ) (b : Body) → IsBody units b → (os : List OpenSegment) → entries_of os ≡ b.entries → (docs : List Doc) → LeavesRoom b (length docs) → (next : ℕ) → CanBeWritten (new_lists os) → (built : Option Built) → IsBuiltOf docs built
    → (lists : Vec (Vec ℕ Global) Global) → map (λ w. w.items) lists.items ≡ new_lists os → CanFollow b (commit_next os built lists next)
commit_follows units b is os even docs leaves next can built built_is lists listed =
    let new_is = built_new docs built built_is in
    record {
      within = omega (arith, ap length even, entries_many os);
      few = few_commit units b docs (new_in (fresh_in built)) is leaves new_is;
      sized = sized_of docs (new_in (fresh_in built)) new_is;
      lists = subst CanBeWritten (sym listed) can;
    }

module _ (size : ℕ) (b : Body) (is : IsBody (units_in size) b) (os : List OpenSegment) (even : entries_of os ≡ b.entries) (grown : All IsGrown os) (docs : List Doc) (leaves : LeavesRoom b (length docs)) (next : ℕ) (some : 1 ≤ next) (most : next ≤ end_of_numbers)
    (can : CanBeWritten (new_lists os)) (built : Option Built) (built_is : IsBuiltOf docs built) where
  abbrev new : Option NewSegment
  new = new_in (fresh_in built)

  new_is : IsNewOf docs new
  new_is = built_new docs built built_is

  writes : lengths_in new ≡ segment_writes docs
  writes = (new_fits docs new new_is).0

  many : count_merged b 0 new ≡ commit_count b.entries docs
  many = count_many b docs new writes

  long : map length (new_segments docs) ≡ lengths_in new
  long = docs_long docs ∙ sym writes

  lengths_are : lengths_in new ++ lengths_with (new_lists os) (count_merged b 0 new) ≡ lengths_with (commit_bytes os docs) (commit_count b.entries docs)
  lengths_are =
      let tables = table_writes (commit_count b.entries docs) in
      (λ i. sym long i ++ (map length (new_lists os) ++ table_writes (many i))) ∙ sym (append_assoc (map length (new_segments docs)) (map length (new_lists os)) tables) ∙ ap (λ ns. ns ++ tables) (sym (map-append length (new_segments docs) (new_lists os)))

  module _ (lists : Vec (Vec ℕ Global) Global) (listed : map (λ w. w.items) lists.items ≡ new_lists os) where
    -- what finds no place is not planned
    pub commit_refused : (why : LayoutFault) → PlansNext b os (commit_next os built lists next) (Err why) → PlansAs size b os docs next (Err why)
    commit_refused (Full need largest) plan = (
      (new_fits docs new new_is).1,
      subst (λ ns. FullAs b.units (named b) ns need largest) (ap (λ ls. lengths_in new ++ lengths_with ls (count_merged b 0 new)) listed ∙ lengths_are) plan,
    )
    commit_refused Memory plan = tt
    commit_refused TooLarge plan = absurd plan
    commit_refused Damaged plan = absurd plan

  module _ (place : Option Extent) (xs ts : List Extent) (x : IsNext size b os (length os) 0 new (new_lists os) next place xs ts (opened_new b (fresh_in built) place)) (p : CommitPlan)
      (plan : IsPlanOf (tabled ts (body_replaced b next (length os) 0 place (entries_of (settled_in os xs)))) os (replaced (length os) 0 (opened_new b (fresh_in built) place) (settled_in os xs)) p.plan)
      (pieces : pieces_of p ≡ laid_in (extents_in place) (new_segments docs) ++ laid_in (xs ++ ts) (new_lists os ++ table_bytes (replaced (length os) 0 (entry_in b place) (entries_of (settled_in os xs))))) where
    abbrev kept : List Entry
    kept = entries_of (settled_in os xs)

    kept_long : length kept ≡ length os
    kept_long = entries_many (settled_in os xs) ∙ settled_long os xs

    -- what is written behind the segment
    abbrev written : List Claim
    written = laid_in (xs ++ ts) (new_lists os ++ table_bytes (replaced (length os) 0 (entry_in b place) kept))

    behind : replaced (length os) 0 (opened_new b (fresh_in built) place) (settled_in os xs) ≡ settled_in os xs ++ opened_new b (fresh_in built) place
    behind = behind_all (length os) (opened_new b (fresh_in built) place) (settled_in os xs) (settled_long os xs)

    -- what is committed then
    to_is : (ds : List Doc) (e : Option Extent) (stored : List Stored) → length (extents_in e) ≡ length (segment_writes ds) → AreOpenOf os stored
        → record { body = body_replaced b next (length os) 0 e kept; stored = replaced (length os) 0 (stored_new ds e) (present os stored) } ≡ commit_to (record { body = b; stored = stored }) os ds next (extents_in e ++ xs)
    to_is [] None stored same are = λ i. record {
      body = next_body b next 0 ((behind_all (length os) [] kept kept_long ∙ append-nil kept) i);
      stored = (behind_all (length os) [] (present os stored) (present_long os stored are) ∙ append-nil (present os stored)) i;
    }
    to_is [] (Some e) stored same are = absurd (omega (arith, same))
    to_is (d ∷ ds) None stored same are = absurd (omega (arith, same))
    to_is (d ∷ ds) (Some e) stored same are = λ i. record {
      body = next_body b next 1 (behind_all (length os) (new_entry b e ∷ []) kept kept_long i);
      stored = behind_all (length os) (new_stored (d ∷ ds) ∷ []) (present os stored) (present_long os stored are) i;
    }

    fresh : AreEntries (entry_in b place) (stored_new docs place) × Each (λ c. IsAmong c (laid_in (extents_in place) (new_segments docs))) (claims_of (entry_in b place) (stored_new docs place))
    fresh = entries_new b (units_in size) (named b) docs new place new_is (first_placed x)

    goes : (stored : List Stored) → AreEntries b.entries stored → AreOpenOf os stored
        → GoesTo (places (pieces_of p)) (λ c. IsAmong c (pieces_of p)) os p.plan (record { body = b; stored = stored }) (with_table ts (commit_to (record { body = b; stored = stored }) os docs next (extents_in place ++ xs)))
    goes stored entries are =
        let after : Committed = record { body = body_replaced b next (length os) 0 place kept; stored = replaced (length os) 0 (stored_new docs place) (present os stored) } in
        subst (GoesTo (places (pieces_of p)) (λ c. IsAmong c (pieces_of p)) os p.plan (record { body = b; stored = stored })) (with_tabled ts after ∙ ap (with_table ts) (to_is docs place stored (x.same ∙ ap length writes) are))
        (subst (λ cs. GoesTo (places cs) (λ c. IsAmong c cs) os p.plan (record { body = b; stored = stored }) (record { body = tabled ts after.body; stored = after.stored })) (sym pieces)
        (next_goes x p.plan plan (new_segments docs) long stored (present os stored) (stored_new docs place) entries
        (entries_settled (units_in size) os stored xs are x.before (subst (λ (es : List Entry). AreEntries es stored) (sym even) entries) _ (lists_placed x))
        (settled_open os stored xs are x.before)
        (subst (λ (es : List Entry). Each (λ c. IsAmong c (claims_of es stored) ⊎ IsAmong c (laid_in xs (new_lists os))) (claims_of kept (present os stored))) even (claims_settled os stored xs are x.before))
        fresh.0 (built_open b (units_in size) (named b) docs built place built_is (first_placed x)) fresh.1))

    commit : PlansCommit b os docs next p
    commit = record {
      next_is = ap (λ (y : Body). y.next_number) plan.manifest_is;
      settled = subst AreSettled (sym (plan.opened_is ∙ behind)) (settled_append (settled_in os xs) (opened_new b (fresh_in built) place) (settled_are os xs x.before) (built_settled b built place));
      extents = extents_in place ++ xs;
      table = ts;
      before = omega (arith, length-append (extents_in place) xs, length-append (new_segments docs) (new_lists os), x.same, ap length long, length-map (new_segments docs) length, x.before);
      placed = subst (PlacedAs b.units (named b) (lengths_with (commit_bytes os docs) (commit_count b.entries docs))) (sym (append_assoc (extents_in place) xs ts))
          (subst (λ ns. PlacedAs b.units (named b) ns (extents_in place ++ (xs ++ ts))) lengths_are x.placed);
      fits = (new_fits docs new new_is).1;
      goes_on = subst (λ cs. GoesOn (places cs) b os p.plan) (sym pieces) (next_goes_on x p.plan plan (new_segments docs) long);
      tabled = each_weaker (λ c. IsAmong c written × IsBehind c) (λ c. IsAmong c (pieces_of p) × IsBehind c) (λ c is. (subst (IsAmong c) (sym pieces) (among_back c (laid_in (extents_in place) (new_segments docs)) written is.0), is.1)) (table_claims (view p.plan.manifest)) (next_tabled x p.plan plan);
      goes = goes;
    }

    commit_as : PlansAs size b os docs next (Ok p)
    commit_as = (next_plan x p.plan plan, commit, subst (λ cs. Each (IsInside size) cs × AreApart cs) (sym pieces) (next_place x p.plan plan (new_segments docs) long))

  -- IT IS PLANNED
  pub commit_planned : (lists : Vec (Vec ℕ Global) Global) → map (λ w. w.items) lists.items ≡ new_lists os → (r : NextPlan) (pieces : Vec Piece Global) → PlansNext b os (commit_next os built lists next) (Ok r)
      → map claim_of pieces.items ≡ laid_in (extents_in r.place) (built_bytes built) ++ map claim_of r.pieces.items → PlansAs size b os docs next (Ok (record { plan = r.plan; pieces = pieces }))
  commit_planned lists listed r pieces (xs, ts, same, before, placed, plan, behind) all =
      commit_as r.place xs ts
      (record {
        is = is;
        generation = leaves.0;
        ids = leaves.1;
        even = even;
        grown = grown;
        within = omega arith;
        few = few_commit (units_in size) b docs new is leaves new_is;
        some = some;
        most = most;
        sized = sized_of docs new new_is;
        can = can;
        same = same;
        before = before ∙ ap length listed;
        placed = subst (λ ls. PlacedAs b.units (named b) (lengths_in new ++ lengths_with ls (count_merged b 0 new)) (extents_in r.place ++ (xs ++ ts))) listed placed;
        entries = opened_entries b (fresh_in built) r.place same;
        fresh_grown = opened_grown b (fresh_in built) r.place;
      })
      (record { plan = r.plan; pieces = pieces }) plan
      (all ∙ (λ i. laid_in (extents_in r.place) (built_same docs built built_is i) ++ (behind ∙ ap (λ ls. laid_in (xs ++ ts) (ls ++ table_bytes (replaced (length os) 0 (entry_in b r.place) (entries_of (settled_in os xs))))) listed) i))
