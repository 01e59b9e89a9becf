-- All numbers so far are greater.
use Rattle.std.proofs.Common.{◌≤◌, ◌<◌, ℕ, slice_index}
use Rattle.pk_join.proofs.head_keys.first_within.Given as goal

abbrev pub invariant-loop-at : goal.invariant-loop-at
invariant-loop-at l = record {
  passed : (k : ℕ) → l.from ≤ k → k < l.at → l.most < slice_index l.numbers k;
}
