-- The run of the second list stands, and then the lower head.
use Rattle.std.proofs.Common.{arith, refl}
use Rattle.pk_sets.proofs.uniting.unite_runs.Goals as goal

pub runs-init : goal.runs-init
runs-init c = record {
  reaches = record { in_a = omega arith; in_b = omega arith; found = refl };
  written = omega arith;
}
