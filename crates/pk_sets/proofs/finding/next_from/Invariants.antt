-- All from `from` to the place is below x.
use Rattle.std.proofs.Common.{◌-◌, ◌<◌, ◌≤◌, length, slice_index}
use Rattle.pk_sets.proofs.finding.next_from.Given as goal

abbrev pub invariant-fours : goal.invariant-fours
invariant-fours l = record {
  lower : l.from ≤ l.at;
  upper : l.at ≤ length l.xs;
  before : l.from < l.at → slice_index l.xs (l.at - 1) < l.x;
}

abbrev pub decreases-fours : goal.decreases-fours
decreases-fours l = length l.xs - l.at

abbrev pub invariant-ones : goal.invariant-ones
invariant-ones l = record {
  lower : l.from ≤ l.at;
  upper : l.at ≤ length l.xs;
  before : l.from < l.at → slice_index l.xs (l.at - 1) < l.x;
}

abbrev pub decreases-ones : goal.decreases-ones
decreases-ones l = length l.xs - l.at
