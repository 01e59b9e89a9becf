-- Each step is one of the halving, as far as keys are known.
use Rattle.std.proofs.Common.{arith, inl, inr, sym, ◌∙◌, ◌≡◌, ◌⊎◌}
use Rattle.pk_keys.specs.Keys.{pivot_at}
use Rattle.pk_keys.proofs.Deciding.{below, above, ended, met}
use Rattle.pk_keys.proofs.pivots.around.Goals as goal
use Rattle.pk_keys.proofs.pivots.around.Goals.{then-pivot-eq0-via-then-pivot-eq0, then-pivot-eq0-via-else-pivot-eq0+then-pivot-key}

pub returns-then-pivot-eq0-clause-value : goal.returns-then-pivot-eq0-clause-value
returns-then-pivot-eq0-clause-value c =
    met _ _ _ _ _ _ (omega arith) why c.loop-low.invariant.deciding
  where
    why : (pivot_at c.args.pivots.now c.loop-low.node ≡ 0) ⊎ (pivot_at c.args.pivots.now c.loop-low.node ≡ c.args.key)
    why = elim c.then-pivot-eq0.branch [
      | then-pivot-eq0-via-then-pivot-eq0 w ↦ inl (sym c.pivot_of-pivot.ensures.value ∙ w.if-pivot-eq0.true)
      | then-pivot-eq0-via-else-pivot-eq0+then-pivot-key w ↦ inr (sym c.pivot_of-pivot.ensures.value ∙ w.if-pivot-key.true)
    ]

pub loop-low-preserved-then-key-pivot : goal.loop-low-preserved-then-key-pivot
loop-low-preserved-then-key-pivot c = record {
  order = omega arith;
  within = omega arith;
  deciding = below _ _ _ _ _ _ (omega arith) (λ e. omega (arith, e, c.pivot_of-pivot.ensures.value)) (λ e. omega (arith, e, c.pivot_of-pivot.ensures.value)) (omega (arith, c.pivot_of-pivot.ensures.value)) c.loop-low.invariant.deciding;
}

pub loop-low-preserved : goal.loop-low-preserved
loop-low-preserved c = record {
  order = omega arith;
  within = omega arith;
  deciding = above _ _ _ _ _ _ (omega arith) (λ e. omega (arith, e, c.pivot_of-pivot.ensures.value)) (λ e. omega (arith, e, c.pivot_of-pivot.ensures.value)) (omega (arith, c.pivot_of-pivot.ensures.value)) c.loop-low.invariant.deciding;
}

pub returns-clause-value : goal.returns-clause-value
returns-clause-value c = ended _ _ _ _ _ _ (omega arith) c.loop-low.invariant.deciding
