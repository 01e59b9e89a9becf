-- The numbers so far are written.
use Rattle.std.proofs.Common.{◌≡◌, length, take}
use Rattle.pk_model.specs.Views.{numbers_in}
use Rattle.pk_match.proofs.finding.write_numbers.Given as goal

abbrev pub invariant-loop-i : goal.invariant-loop-i
invariant-loop-i l = record {
  long : length l.out ≡ length l.numbers;
  written : numbers_in (take l.i l.out) ≡ take l.i l.numbers;
}
