-- The union of what is left stays behind what is written.
use Rattle.std.proofs.Common.{◌+◌, ◌-◌, ◌≤◌, length}
use Rattle.pk_sets.specs.Sets.{union}
use Rattle.pk_sets.specs.Cursors.{Reaches}
use Rattle.pk_sets.proofs.uniting.unite_runs.Given as goal

abbrev pub invariant-runs : goal.invariant-runs
invariant-runs l = record {
  reaches : Reaches union l.a l.b l.initial.at l.initial.out l.at l.out;
  written : l.at.written ≤ l.at.a + l.at.b;
}

abbrev pub decreases-runs : goal.decreases-runs
decreases-runs l = (length l.a - l.at.a) + (length l.b - l.at.b)
