-- The numbers one place before a vector.
use Rattle.std.proofs.Common.{arith}
use Rattle.pk_lanes.proofs.OrderLemmas.{before_is}
use Rattle.pk_lanes.proofs.questions.before.Goals as goal

pub returns : goal.returns
returns c i h = before_is c.args.seed.now c.args.xs.now c.args.k i c.told-seed (omega arith) (omega arith) h
