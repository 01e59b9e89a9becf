-- The search goes on to the half that has the number.
use Rattle.std.proofs.Common.{◌+◌, ◌-◌, ◌/◌, slice_index, arith, inl, inr}
use Rattle.std.proofs.lemmas.Bool.{cases_lt}
use Rattle.pk_dead.proofs.SearchLemmas.{Leaves, leaves_lower, leaves_upper}
use Rattle.pk_dead.proofs.deletion.last_upto.Goals as goal

pub halves-preserved : goal.halves-preserved
halves-preserved c =
    let xs = c.args.numbers.now in
    let n = c.args.n in
    let at = c.halves.at in
    let size = c.halves.size in
    let inv = c.halves.invariant in
    let here = slice_index xs (at + size / 2) in
    let left : Leaves xs n (at + c.step_to-at.result) (size - size / 2) = elim (cases_lt n here) [
      | inl m ↦ leaves_lower xs n at size c.step_to-at.result c.requires.posting inv.within inv.upto m (c.step_to-at.ensures.above m)
      | inr m ↦ leaves_upper xs n at size c.step_to-at.result inv.within inv.above (omega (arith, m)) (c.step_to-at.ensures.reached (omega (arith, m)))
    ] in
    record { some = omega (arith, c.halves-test.true); within = left.within; upto = left.upto; above = left.above }
