use Rattle.std.proofs.Common.{arith}
use Rattle.pk_posting.proofs.PuttingLemmas.{row_is}
use Rattle.pk_posting.proofs.encoding.widths_from.Goals as goal

pub returns : goal.returns
returns c = row_is c.args.xs.now c.args.k c.loop-j.widths c.loop-j.invariant.0 (λ j h. c.loop-j.invariant.1 j (omega arith))
