-- What is left of the halving gives what all of it gives.
use Rattle.std.proofs.Common.{◌-◌, ◌≤◌}
use Rattle.pk_keys.specs.Keys.{decided}
use Rattle.pk_keys.proofs.Deciding.{Deciding}
use Rattle.pk_keys.proofs.pivots.around.Given as goal

abbrev pub invariant-loop-low : goal.invariant-loop-low
invariant-loop-low l = record {
  order : l.low ≤ l.high;
  within : l.high ≤ l.words;
  deciding : Deciding l.pivots l.key l.low l.high l.node (decided l.words l.pivots l.key 0 l.words 1);
}

abbrev pub decreases-loop-low : goal.decreases-loop-low
decreases-loop-low l = l.high - l.low
