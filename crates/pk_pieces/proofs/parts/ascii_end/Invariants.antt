-- The place lies between the two.
use Rattle.std.proofs.Common.{◌≤◌, ◌-◌}
use Rattle.pk_pieces.proofs.parts.ascii_end.Given as goal

abbrev pub invariant-looks : goal.invariant-looks
invariant-looks l = record { low : l.from ≤ l.at; high : l.at ≤ l.most }

abbrev pub decreases-looks : goal.decreases-looks
decreases-looks l = l.most - l.at
