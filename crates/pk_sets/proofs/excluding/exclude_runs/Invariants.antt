-- The difference of what is left stays behind what is written.
use Rattle.std.proofs.Common.{◌+◌, ◌-◌, ◌≤◌, length}
use Rattle.pk_sets.specs.Sets.{difference}
use Rattle.pk_sets.specs.Cursors.{Reaches}
use Rattle.pk_sets.proofs.excluding.exclude_runs.Given as goal

abbrev pub invariant-runs : goal.invariant-runs
invariant-runs l = record {
  reaches : Reaches difference l.a l.b l.initial.at l.initial.out l.at l.out;
  written : l.at.written ≤ l.at.a;
}

abbrev pub decreases-runs : goal.decreases-runs
decreases-runs l = (length l.a - l.at.a) + (length l.b - l.at.b)
