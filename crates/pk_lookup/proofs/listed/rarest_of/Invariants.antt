-- The place is one of the row's.
use Rattle.std.proofs.Common.{◌≤◌}
use Rattle.pk_lookup.proofs.listed.rarest_of.Given as goal

abbrev pub invariant-loop-place : goal.invariant-loop-place
invariant-loop-place l = l.rarest ≤ l.count
