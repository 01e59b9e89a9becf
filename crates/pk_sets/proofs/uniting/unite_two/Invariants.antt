-- Of both unions: that of what is left stays behind what is written.
use Rattle.std.proofs.Common.{◌+◌, ◌-◌, ◌≤◌, length}
use Rattle.pk_sets.specs.Sets.{union}
use Rattle.pk_sets.specs.Cursors.{Reaches}
use Rattle.pk_sets.proofs.uniting.unite_two.Given as goal

abbrev pub invariant-fours : goal.invariant-fours
invariant-fours l = record {
  low : Reaches union l.low_a l.low_b l.initial.in_low l.initial.low l.in_low l.low;
  high : Reaches union l.high_a l.high_b l.initial.in_high l.initial.high l.in_high l.high;
  written_low : l.in_low.written ≤ l.in_low.a + l.in_low.b;
  written_high : l.in_high.written ≤ l.in_high.a + l.in_high.b;
}

abbrev pub decreases-fours : goal.decreases-fours
decreases-fours l = (length l.low_a - l.in_low.a) + (length l.low_b - l.in_low.b)
