-- The difference of what is left stays behind what is written.
use Rattle.std.proofs.Common.{◌+◌, ◌-◌, ◌≤◌, length}
use Rattle.pk_sets.specs.Sets.{difference}
use Rattle.pk_sets.specs.Cursors.{Reaches}
use Rattle.pk_sets.proofs.gapless.exclude_gapless.Given as goal

abbrev pub invariant-eights : goal.invariant-eights
invariant-eights l = record {
  reaches : Reaches difference l.a l.b l.initial.at l.initial.out l.at l.out;
  written : l.at.written ≤ l.at.a;
}

abbrev pub decreases-eights : goal.decreases-eights
decreases-eights l = (length l.a - l.at.a) + (length l.b - l.at.b)
