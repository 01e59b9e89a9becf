-- All is placed once: the segment first, then the lists, and the table behind them.
use Rattle.std.proofs.Common.{◌≡◌, ◌∙◌, ◌+◌, ◌≤◌, ◌++◌, List, ℕ, Vec, Global, ap, arith, length, subst, sym}
use Rattle.std.proofs.lemmas.List.{length-map}
use Rattle.pk_manifest.specs.declared.manifest.Part.{Part as Entry}
use Rattle.pk_manifest.specs.Sound.{named}
use Rattle.pk_manifest.specs.Spelling.{Body, view}
use Rattle.pk_open.specs.Opened.{entries_of}
use Rattle.pk_open.proofs.PlaceLemmas.{entries_many}
use Rattle.pk_space.specs.Places.{PlacedAs}
use Rattle.pk_state.specs.Writing.{next_body, replaced}
use Rattle.pk_layout.specs.Change.{with_lists}
use Rattle.pk_layout.specs.Merging.{count_merged, extents_in}
use Rattle.pk_layout.specs.Next.{body_next, lengths_next, lists_in, new_in, opened_next}
use Rattle.pk_layout.specs.Plan.{entry_in, ids_in, laid_in, settled_in, table_bytes, tabled}
use Rattle.pk_layout.proofs.ChangeLemmas.{lists_settle}
use Rattle.pk_layout.proofs.PlanLemmas.{entries_left, next_many, plan_made}
use Rattle.pk_layout.proofs.SettledLemmas.{settled_long}
use Rattle.pk_layout.proofs.TableLemmas.{tables_many}
use Rattle.pk_layout.proofs.planning.plan_next.Goals as goal

pub split_at-requires-2 : goal.split_at-requires-2
split_at-requires-2 c =
    let x = c.args.next in
    omega (arith, next_many (view c.args.manifest.now) x c.in_ok-extents.extents.items c.in_ok-extents.ensures, c.split_at.ensures.back_len, ap length c.deref.ensures.value, c.count_in.ensures, c.len.ensures, length-map x.lists.items (λ (w : Vec ℕ Global). w.items))

pub entries_over-requires : goal.entries_over-requires
entries_over-requires c =
    let os = c.args.opened.now in
    let xs = c.split_at-2.result.0.now in
    let kept = c.in_ok-new_lists.ensures.entries in
    omega (arith, ap length kept, entries_many (settled_in os xs), settled_long os xs, entries_many os, ap length c.requires.same, c.requires.follows.within)

pub pieces_with-requires : goal.pieces_with-requires
pieces_with-requires c =
    let b = view c.args.manifest.now in
    let os = c.args.opened.now in
    let x = c.args.next in
    let xs = c.split_at-2.result.0.now in
    let place = c.place_in-place.result in
    let kept = c.in_ok-new_lists.ensures.entries in
    let entries : (view c.next_manifest-following.result).entries ≡ replaced x.run.from x.run.count (entry_in b place) (entries_of (settled_in os xs)) =
    ap (λ (y : Body). y.entries) c.next_manifest-following.ensures ∙ c.in_ok-entries.ensures ∙ ap (replaced x.run.from x.run.count (entry_in b place)) kept in
    let within : x.run.from + x.run.count ≤ length os = omega (arith, c.requires.follows.within, entries_many os, ap length c.requires.same) in
    let same = ap length c.place_in-place.ensures ∙ c.split_at.ensures.front_len ∙ c.count_in.ensures in
    let many = entries_left b os x.run.from x.run.count (new_in x.segment) place xs c.requires.same within same in
    omega (
      arith,
      tables_many (view c.next_manifest-following.result).entries (count_merged b x.run.count (new_in x.segment)) (ap length entries ∙ many),
      next_many b x c.in_ok-extents.extents.items c.in_ok-extents.ensures,
      c.split_at.ensures.back_len,
      ap length c.deref.ensures.value,
      c.count_in.ensures,
      length-map x.lists.items (λ (w : Vec ℕ Global). w.items),
    )

pub plan_for-requires-clause-few : goal.plan_for-requires-clause-few
plan_for-requires-clause-few c =
    let b = view c.args.manifest.now in
    let os = c.args.opened.now in
    let x = c.args.next in
    let xs = c.split_at-2.result.0.now in
    let place = c.place_in-place.result in
    let kept = c.in_ok-new_lists.ensures.entries in
    let entries : (view c.next_manifest-following.result).entries ≡ replaced x.run.from x.run.count (entry_in b place) (entries_of (settled_in os xs)) =
    ap (λ (y : Body). y.entries) c.next_manifest-following.ensures ∙ c.in_ok-entries.ensures ∙ ap (replaced x.run.from x.run.count (entry_in b place)) kept in
    let within : x.run.from + x.run.count ≤ length os = omega (arith, c.requires.follows.within, entries_many os, ap length c.requires.same) in
    let same = ap length c.place_in-place.ensures ∙ c.split_at.ensures.front_len ∙ c.count_in.ensures in
    omega (arith, ap length entries, entries_left b os x.run.from x.run.count (new_in x.segment) place xs c.requires.same within same, c.requires.follows.few)

pub returns : goal.returns
returns c =
    let b = view c.args.manifest.now in
    let os = c.args.opened.now in
    let x = c.args.next in
    let xs = c.split_at-2.result.0.now in
    let ts = c.split_at-2.result.1.now in
    let place = c.place_in-place.result in
    let all : c.in_ok-extents.extents.items ≡ extents_in place ++ (xs ++ ts) = sym c.deref.ensures.value ∙ c.split_at.ensures.by_index.0 ∙ (λ i. sym c.place_in-place.ensures i ++ c.split_at-2.ensures.by_index.0 i) in
    let same = ap length c.place_in-place.ensures ∙ c.split_at.ensures.front_len ∙ c.count_in.ensures in
    let before = c.split_at-2.ensures.front_len ∙ (let many : c.len.result ≡ length x.lists.items = omega (arith, c.len.ensures) in many) ∙ sym (length-map x.lists.items (λ (w : Vec ℕ Global). w.items)) in
    let kept = c.in_ok-new_lists.ensures.entries in
    let entries = c.in_ok-entries.ensures ∙ ap (replaced x.run.from x.run.count (entry_in b place)) kept in
    let body : view c.next_manifest-following.result ≡ tabled ts (body_next b os x place xs) = c.next_manifest-following.ensures ∙ ap (λ (es : List Entry). tabled ts (next_body b x.next_number (ids_in place) es)) entries in
    let settles : with_lists os c.in_ok-new_lists.new_lists.items ≡ settled_in os xs = ap (with_lists os) c.in_ok-new_lists.ensures.lists ∙ lists_settle os xs in
    let within : x.run.from + x.run.count ≤ length os = omega (arith, c.requires.follows.within, entries_many os, ap length c.requires.same) in (
      xs,
      ts,
      same,
      before,
      subst (PlacedAs b.units (named b) (lengths_next b x)) all c.in_ok-extents.ensures,
      plan_made (view c.next_manifest-following.result) (tabled ts (body_next b os x place xs)) os (opened_next b os x place xs)
          (record { lists = c.in_ok-new_lists.new_lists; run = x.run; segment = c.opened_new-segment.result }) c.in_ok-plan.plan body
          (record { lists = c.in_ok-new_lists.ensures.places; run = within }) (λ i. replaced x.run.from x.run.count (c.opened_new-segment.ensures i) (settles i)) c.in_ok-plan.ensures,
      c.in_ok-pieces.ensures ∙ (λ i. laid_in (c.split_at-2.ensures.by_index.0 i) (lists_in x ++ table_bytes (body i).entries)),
    )
