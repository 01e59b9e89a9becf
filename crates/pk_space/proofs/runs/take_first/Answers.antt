-- The run that is taken is the first that fits, and none fits where none is long enough.
use Rattle.std.proofs.Common.{length, slice_index_or, slice_set, take, max, ◌+◌, ◌-◌, ◌≡◌, ◌≤◌, ◌<◌, ◌&&◌, true, not, refl, arith, ap, sym, ◌∙◌, subst, ℕ, List}
use Rattle.std.proofs.lemmas.List.{take_all}
use Rattle.pk_disk.specs.Disk.{in_range}
use Rattle.pk_space.specs.declared.runs.Run.{Run}
use Rattle.pk_space.specs.Free.{IsFirstFit, IsFullAt}
use Rattle.pk_space.specs.Runs.{are_spaced, is_in_run, run_end}
use Rattle.pk_space.proofs.PlaceLemmas.{EachRun, IsLongest, each_more, end_below, full_at, longest_more, place_ok, spaced_of, spaced_set}
use Rattle.pk_space.proofs.runs.take_first.Goals as goal

pub overflow_add-runs : goal.overflow_add-runs
overflow_add-runs c =
    let lt : c.loop-i.i < length c.loop-i.runs = omega arith in
    let spaced : are_spaced 0 4294967295 c.loop-i.runs ≡ true = ap (are_spaced 0 4294967295) c.loop-i.invariant.same ∙ c.requires.spaced in
    let ends : run_end (slice_index_or c.loop-i.runs c.loop-i.i (record { first = 0; count = 0 })) ≤ 4294967295 = end_below 0 4294967295 c.loop-i.runs c.loop-i.i (record { first = 0; count = 0 }) spaced lt in
    omega (arith, ends)

pub returns-then-run-need-clause-place : goal.returns-then-run-need-clause-place
returns-then-run-need-clause-place c =
    let inv = c.loop-i.invariant in
    let x : Run = slice_index_or c.loop-i.runs c.loop-i.i (record { first = 0; count = 0 }) in
    let lt : c.loop-i.i < length c.loop-i.runs = omega arith in
    let spaced : are_spaced 0 4294967295 c.loop-i.runs ≡ true = ap (are_spaced 0 4294967295) inv.same ∙ c.requires.spaced in
    let r' : Run = record { first = x.first + c.args.need; count = x.count - c.args.need } in
    subst (λ (rs : List Run). IsFirstFit (is_in_run rs) c.args.need x.first × ((u : ℕ) → is_in_run (slice_set c.loop-i.runs c.loop-i.i r') u ≡ (is_in_run rs u && not (in_range x.first c.args.need u)))) inv.same
    (place_ok c.loop-i.runs c.loop-i.i c.args.need c.loop-i.largest (record { first = 0; count = 0 }) (spaced_of 0 4294967295 c.loop-i.runs spaced) lt c.requires.some inv.short inv.each c.if-run-need.true r' refl refl)

pub returns-then-run-need-clause-spaced : goal.returns-then-run-need-clause-spaced
returns-then-run-need-clause-spaced c =
    let inv = c.loop-i.invariant in
    let x : Run = slice_index_or c.loop-i.runs c.loop-i.i (record { first = 0; count = 0 }) in
    let lt : c.loop-i.i < length c.loop-i.runs = omega arith in
    let spaced : are_spaced 0 4294967295 c.loop-i.runs ≡ true = ap (are_spaced 0 4294967295) inv.same ∙ c.requires.spaced in
    let r' : Run = record { first = x.first + c.args.need; count = x.count - c.args.need } in
    let first : x.first ≤ r'.first = omega arith in
    let long : c.args.need ≤ x.count = c.if-run-need.true in
    let ends : run_end r' ≡ run_end x = omega (arith, long) in
    spaced_set 0 4294967295 c.loop-i.runs c.loop-i.i (record { first = 0; count = 0 }) r' spaced lt first ends

pub loop-i-preserved : goal.loop-i-preserved
loop-i-preserved c =
    let inv = c.loop-i.invariant in
    let d : Run = record { first = 0; count = 0 } in
    let lt : c.loop-i.i < length c.loop-i.runs = omega arith in
    let is : c.max-largest.result ≡ max c.loop-i.largest (slice_index_or c.loop-i.runs c.loop-i.i d).count = c.max-largest.ensures in
    record {
      same = inv.same;
      short = omega (arith, is, inv.short, c.if-run-need.false);
      each = subst (λ (n : ℕ). EachRun (λ r. r.count ≤ n) (take (c.loop-i.i + 1) c.loop-i.runs)) (sym is) (each_more c.loop-i.runs c.loop-i.i c.loop-i.largest d lt inv.each);
      longest = subst (λ (n : ℕ). IsLongest n c.loop-i.runs) (sym is) (longest_more c.loop-i.runs c.loop-i.i c.loop-i.largest d lt inv.longest);
    }

pub returns-clause-place : goal.returns-clause-place
returns-clause-place c =
    let inv = c.loop-i.invariant in
    let spaced : are_spaced 0 4294967295 c.loop-i.runs ≡ true = ap (are_spaced 0 4294967295) inv.same ∙ c.requires.spaced in
    let full = full_at c.loop-i.runs (spaced_of 0 4294967295 c.loop-i.runs spaced) c.args.need c.loop-i.largest inv.short (all_runs c.loop-i.runs c.loop-i.i _ (let past : length c.loop-i.runs ≤ c.loop-i.i = omega arith in past) inv.each) inv.longest in
    (refl, subst (λ (rs : List Run). IsFullAt (is_in_run rs) c.args.need c.loop-i.largest) inv.same full, λ u. ap (λ (rs : List Run). is_in_run rs u) inv.same)
  where
    all_runs : (rs : List Run) (n m : ℕ) → length rs ≤ n → EachRun (λ r. r.count ≤ m) (take n rs) → EachRun (λ r. r.count ≤ m) rs
    all_runs rs n m past each = subst (λ (xs : List Run). EachRun (λ r. r.count ≤ m) xs) (take_all n rs past) each
