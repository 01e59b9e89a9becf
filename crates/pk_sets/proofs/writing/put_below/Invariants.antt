-- All from `from` to the place is below x, and written.
use Rattle.std.proofs.Common.{◌≡◌, ◌+◌, ◌-◌, ◌<◌, ◌≤◌, ◌++◌, length, slice_index, take}
use Rattle.std.specs.Simd.Lanes.{chunk}
use Rattle.pk_sets.proofs.writing.put_below.Given as goal

abbrev pub invariant-fours : goal.invariant-fours
invariant-fours l = record {
  lower : l.from ≤ l.at;
  upper : l.at ≤ length l.xs;
  before : l.from < l.at → slice_index l.xs (l.at - 1) < l.x;
  place : l.to ≡ l.n + (l.at - l.from);
  found : take l.to l.out ≡ take l.n l.initial.out ++ chunk l.from (l.at - l.from) l.xs;
}

abbrev pub decreases-fours : goal.decreases-fours
decreases-fours l = length l.xs - l.at

abbrev pub invariant-ones : goal.invariant-ones
invariant-ones l = record {
  lower : l.initial.at ≤ l.at;
  upper : l.at ≤ length l.xs;
  before : l.from < l.at → slice_index l.xs (l.at - 1) < l.x;
  place : l.to ≡ l.initial.to + (l.at - l.initial.at);
  found : take l.to l.out ≡ take l.initial.to l.initial.out ++ chunk l.initial.at (l.at - l.initial.at) l.xs;
}

abbrev pub decreases-ones : goal.decreases-ones
decreases-ones l = length l.xs - l.at
