use Rattle.std.proofs.Common.{arith}
use Rattle.pk_dict.proofs.Shared.{shared_right}
use Rattle.pk_dict.proofs.compare.shared_front.Goals as goal

pub returns-else-n-b-clause-value : goal.returns-else-n-b-clause-value
returns-else-n-b-clause-value c = omega (arith, c.loop-n.invariant.2, shared_right c.args.a.now c.args.b.now c.loop-n.n c.if-n-b.false)
