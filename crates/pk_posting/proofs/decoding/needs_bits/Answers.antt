use Rattle.std.proofs.Common.{◌≤◌, ◌-◌, ◌^◌, slice_index, arith, below_more, refl}
use Rattle.pk_posting.specs.Posting.{differences}
use Rattle.pk_posting.proofs.DifferenceLemmas.{difference, half_needs, half_is}
use Rattle.pk_posting.proofs.decoding.needs_bits.Goals as goal

pub returns-then-saturating_sub-half : goal.returns-then-saturating_sub-half
returns-then-saturating_sub-half c =
    let d = difference c.args.seed.now c.args.xs.now c.loop-i.i (omega arith) in
    let h = half_is c.args.width _ (omega arith) (omega arith) refl in
    let l : 2 ^ (c.args.width - 1) ≤ slice_index (differences c.args.seed.now c.args.xs.now) c.loop-i.i =
    omega (arith, d, h, c.saturating_sub.ensures, c.before-in-loop-i.ensures) in
    (λ t. half_needs (differences c.args.seed.now c.args.xs.now) c.args.width c.loop-i.i (omega arith) (omega arith) l, λ n. refl)

pub loop-i-preserved : goal.loop-i-preserved
loop-i-preserved c =
    let d = difference c.args.seed.now c.args.xs.now c.loop-i.i (omega arith) in
    let h = half_is c.args.width _ (omega arith) (omega arith) refl in
    below_more _ _ c.loop-i.invariant (omega (arith, d, h, c.saturating_sub.ensures, c.before-in-loop-i.ensures))
