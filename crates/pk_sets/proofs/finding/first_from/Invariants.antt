-- All before low is below x, and nothing from high on is.
use Rattle.std.proofs.Common.{◌-◌, ◌<◌, ◌≤◌, length, slice_index}
use Rattle.pk_sets.proofs.finding.first_from.Given as goal

abbrev pub invariant-halves : goal.invariant-halves
invariant-halves l = record {
  middle : l.low ≤ l.high;
  upper : l.high ≤ length l.xs;
  before : 0 < l.low → slice_index l.xs (l.low - 1) < l.x;
  here : l.high < length l.xs → l.x ≤ slice_index l.xs l.high;
}

abbrev pub decreases-halves : goal.decreases-halves
decreases-halves l = l.high - l.low
