-- The table has the digits of each number below 100.
use Rattle.pk_digits.proofs.DecimalLemmas.{pair_at, take_two}
use Rattle.pk_digits.proofs.digits.write_pair.Goals as goal

pub returns-clause-written : goal.returns-clause-written
returns-clause-written c =
    let p = pair_at c.args.number c.requires.low in
    rw (p.0, p.1) (take_two c.args.out.now c.args.at _ _ c.requires.room)
