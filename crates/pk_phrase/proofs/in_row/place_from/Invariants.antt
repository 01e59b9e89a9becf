-- The place is one of the directory, or its end.
use Rattle.std.proofs.Common.{◌-◌, ◌<◌, ◌≤◌, ◌≡◌}
use Rattle.pk_segment.specs.Directory.{entries_in}
use Rattle.pk_phrase.proofs.in_row.place_from.Given as goal

abbrev pub invariant-leaps : goal.invariant-leaps
invariant-leaps l = record { len : l.len ≡ entries_in l.directory; low : l.low ≤ l.len; step : 0 < l.step }

abbrev pub decreases-leaps : goal.decreases-leaps
decreases-leaps l = l.len - l.low

abbrev pub invariant-halves : goal.invariant-halves
invariant-halves l = record { len : l.len ≡ entries_in l.directory; high : l.high ≤ l.len }

abbrev pub decreases-halves : goal.decreases-halves
decreases-halves l = l.high - l.low
