-- The sum is that over the segments so far.
use Rattle.std.proofs.Common.{◌≡◌}
use Rattle.pk_lookup.specs.Frequencies.{sum_of}
use Rattle.pk_lookup.proofs.listed.sum_at.Given as goal

abbrev pub invariant-loop-i : goal.invariant-loop-i
invariant-loop-i l = l.sum ≡ sum_of l.table.words l.i l.table.entries.now l.place
