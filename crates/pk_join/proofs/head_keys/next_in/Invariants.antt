-- All keys so far are greater.
use Rattle.std.proofs.Common.{◌≤◌, ◌<◌, ◌-◌, ℕ, length, slice_index}
use Rattle.pk_join.proofs.head_keys.next_in.Given as goal

abbrev pub invariant-groups : goal.invariant-groups
invariant-groups l = record {
  from : l.from ≤ l.at;
  within : l.at ≤ length l.keys;
  passed : (k : ℕ) → l.from ≤ k → k < l.at → l.most < slice_index l.keys k;
}

abbrev pub decreases-groups : goal.decreases-groups
decreases-groups l = length l.keys - l.at
