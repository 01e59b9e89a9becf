-- The digits of the numbers so far are there.
use Rattle.pk_digits.specs.Fours.{AreFours}
use Rattle.pk_digits.proofs.fours.FourDigits.new.Given as goal

abbrev pub invariant-loop-number : goal.invariant-loop-number
invariant-loop-number l = AreFours l.number l.digits.items
