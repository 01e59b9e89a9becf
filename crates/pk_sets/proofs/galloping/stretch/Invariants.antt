-- All before low is below x, and x is not above high.
use Rattle.std.proofs.Common.{◌-◌, ◌+◌, ◌*◌, ◌<◌, ◌≤◌, slice_index}
use Rattle.pk_sets.proofs.galloping.stretch.Given as goal

abbrev pub invariant-steps : goal.invariant-steps
invariant-steps l = record {
  lower : l.from ≤ l.low;
  upper : l.low ≤ l.count;
  some : 0 < l.step;
  before : l.from < l.low → slice_index l.b (32 * l.low - 1) < l.x;
}

abbrev pub decreases-steps : goal.decreases-steps
decreases-steps l = l.count - l.low

abbrev pub invariant-halves : goal.invariant-halves
invariant-halves l = record {
  lower : l.from ≤ l.low;
  middle : l.low ≤ l.high;
  upper : l.high ≤ l.count;
  before : l.from < l.low → slice_index l.b (32 * l.low - 1) < l.x;
  here : l.high < l.count → l.x ≤ slice_index l.b (32 * l.high + 31);
}

abbrev pub decreases-halves : goal.decreases-halves
decreases-halves l = l.high - l.low
