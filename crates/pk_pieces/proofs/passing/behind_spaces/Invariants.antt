-- The place lies between the two.
use Rattle.std.proofs.Common.{◌≤◌}
use Rattle.pk_pieces.proofs.passing.behind_spaces.Given as goal

abbrev pub invariant-bytes : goal.invariant-bytes
invariant-bytes l = record { low : l.from ≤ l.at; high : l.at ≤ l.to }

abbrev pub decreases-bytes : goal.decreases-bytes
decreases-bytes l = l.at
