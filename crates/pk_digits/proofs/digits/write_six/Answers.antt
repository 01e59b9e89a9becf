-- At most four digits, or at most two before four.
use Rattle.std.proofs.Common.{◌/◌, arith, append_assoc}
use Rattle.std.proofs.lemmas.Fmt.{length-decimal-le}
use Rattle.pk_digits.proofs.DecimalLemmas.{decimal_four, length_four}
use Rattle.pk_digits.proofs.digits.write_six.Goals as goal

pub write_four-requires-clause-room : goal.write_four-requires-clause-room
write_four-requires-clause-room c = omega (arith, length-decimal-le 2 (c.args.number / 10000) (omega arith) (omega arith) (omega arith))

pub returns-clause-end : goal.returns-clause-end
returns-clause-end c = omega (arith, length_four c.args.number c.if-number-lt10000.false (omega arith))

pub returns-clause-written : goal.returns-clause-written
returns-clause-written c =
    rw (decimal_four c.args.number c.if-number-lt10000.false (omega arith), c.write_four.ensures.written, c.write_short-at.ensures.written, append_assoc)
