-- The last number is as far from the first as its index.
use Rattle.std.proofs.Common.{◌-◌, length, arith}
use Rattle.std.proofs.lemmas.Bool.{eq-eqb, eqb-true}
use Rattle.pk_sets.proofs.GaplessLemmas.{gapless_by_ends, ordered}
use Rattle.pk_sets.proofs.gapless.is_gapless.Goals as goal

pub overflow_sub-result : goal.overflow_sub-result
overflow_sub-result c = ordered c.args.xs.now c.requires (omega arith)

pub returns : goal.returns
returns c = (
  λ far. gapless_by_ends c.args.xs.now c.requires (eqb-true _ _ far),
  λ gapless. eq-eqb _ _ (let last = gapless (length c.args.xs.now - 1) (omega arith) in omega (arith, last)),
)
