-- None of the keys so far is below it.
use Rattle.std.proofs.Common.{◌≤◌, ◌<◌, ◌*◌, ℕ, slice_index}
use Rattle.pk_join.proofs.head_keys.least_of.Given as goal

abbrev pub invariant-keys : goal.invariant-keys
invariant-keys l = record {
  below : (k : ℕ) → 64 * l.group ≤ k → k < l.at → l.least ≤ slice_index l.keys k;
}
