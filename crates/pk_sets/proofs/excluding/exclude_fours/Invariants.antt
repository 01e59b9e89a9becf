-- The difference of what is left stays behind what is written.
use Rattle.std.proofs.Common.{◌+◌, ◌-◌, ◌≤◌, length}
use Rattle.pk_sets.specs.Sets.{difference}
use Rattle.pk_sets.specs.Cursors.{Reaches}
use Rattle.pk_sets.proofs.excluding.exclude_fours.Given as goal

abbrev pub invariant-fours : goal.invariant-fours
invariant-fours l = record {
  reaches : Reaches difference l.a l.b l.fn.from l.initial.out l.at l.out;
  written : l.at.written ≤ l.at.a;
}

abbrev pub decreases-fours : goal.decreases-fours
decreases-fours l = (length l.a - l.at.a) + (length l.b - l.at.b)
