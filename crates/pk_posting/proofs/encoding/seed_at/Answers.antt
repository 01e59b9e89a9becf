use Rattle.std.proofs.Common.{arith, ◌-◌, ◌*◌}
use Rattle.pk_posting.proofs.RisingLemmas.{seed_four}
use Rattle.pk_posting.proofs.encoding.seed_at.Goals as goal

pub returns : goal.returns
returns c = seed_four c.args.xs.now c.args.k (128 * c.args.k - 4) (omega arith) (omega arith)
