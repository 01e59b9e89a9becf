-- A number above the one before stands in a block, or begins one.
use Rattle.std.proofs.Common.{◌≡◌, ◌+◌, ◌*◌, ◌/◌, ◌%◌, slice_index, ap, arith, inl, inr, refl}
use Rattle.std.proofs.lemmas.Bool.{cases_lt}
use Rattle.pk_lookup.proofs.rising.blocks_rise.Goals as goal

pub returns : goal.returns
returns c = (
  λ t. (λ k lt. (
      let xs = c.args.numbers.now in
      elim (cases_lt 0 ((k + 1) % 128)) [
        | inl inside ↦ c.requires k lt inside
        | inr none ↦ (
            let b = k / 128 in
            let at : 128 * b + 127 ≡ k = omega arith in
            let next : 128 * b + 128 ≡ k + 1 = omega arith in
            let r = c.loop-block.invariant b (omega (arith, lt)) (omega (arith, lt)) in
            omega (arith, r, ap (slice_index xs) at, ap (slice_index xs) next))
      ])),
  λ up. refl,
)
