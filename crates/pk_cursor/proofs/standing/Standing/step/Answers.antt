use Rattle.std.proofs.Common.{arith}
use Rattle.pk_cursor.proofs.SeekingLemmas.{last_held}
use Rattle.pk_cursor.proofs.standing.Standing.step.Goals as goal

pub returns-clause-at : goal.returns-clause-at
returns-clause-at g c h xs n a =
    rw (last_held _ c.args.self.now xs n a (omega arith) (omega arith) (omega arith)) (c.pass.ensures.at h xs n a)
