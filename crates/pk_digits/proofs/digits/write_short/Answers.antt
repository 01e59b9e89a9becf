-- One digit, two, three or four.
use Rattle.std.proofs.Common.{arith, append_assoc}
use Rattle.std.proofs.lemmas.Fmt.{decimal_digit}
use Rattle.pk_digits.proofs.DecimalLemmas.{decimal_two, decimal_three, decimal_whole_four, length_one, length_two, length_three, length_whole_four}
use Rattle.pk_digits.proofs.digits.write_short.Goals as goal

pub returns-then-number-lt10-clause-end : goal.returns-then-number-lt10-clause-end
returns-then-number-lt10-clause-end c = omega (arith, length_one c.args.number c.if-number-lt10.true)

pub returns-then-number-lt10-clause-written : goal.returns-then-number-lt10-clause-written
returns-then-number-lt10-clause-written c = rw (decimal_digit c.args.number c.if-number-lt10.true) c.write_digit.ensures.written

pub returns-then-number-lt100-clause-end : goal.returns-then-number-lt100-clause-end
returns-then-number-lt100-clause-end c = omega (arith, length_two c.args.number c.if-number-lt10.false c.if-number-lt100.true)

pub returns-then-number-lt100-clause-written : goal.returns-then-number-lt100-clause-written
returns-then-number-lt100-clause-written c = rw (decimal_two c.args.number c.if-number-lt10.false c.if-number-lt100.true) c.write_pair.ensures.written

pub returns-then-number-lt1000-clause-end : goal.returns-then-number-lt1000-clause-end
returns-then-number-lt1000-clause-end c = omega (arith, length_three c.args.number c.if-number-lt100.false c.if-number-lt1000.true)

pub returns-then-number-lt1000-clause-written : goal.returns-then-number-lt1000-clause-written
returns-then-number-lt1000-clause-written c =
    rw (decimal_three c.args.number c.if-number-lt100.false c.if-number-lt1000.true, c.write_pair-then-number-lt1000.ensures.written, c.write_digit-at.ensures.written, append_assoc)

pub returns-clause-end : goal.returns-clause-end
returns-clause-end c = omega (arith, length_whole_four c.args.number c.if-number-lt1000.false c.requires.low)

pub returns-clause-written : goal.returns-clause-written
returns-clause-written c = rw (decimal_whole_four c.args.number c.if-number-lt1000.false c.requires.low) c.write_four.ensures.written
