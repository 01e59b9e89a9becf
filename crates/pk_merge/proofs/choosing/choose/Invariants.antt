-- What is chosen so far is the first of the least runs before the place.
use Rattle.std.proofs.Common.{◌≡◌, ◌≤◌, ◌<◌, ◌+◌, ℕ, length}
use Rattle.pk_state.specs.Runs.{sum_of_run}
use Rattle.pk_merge.proofs.choosing.choose.Given as goal

abbrev pub invariant-loop-place : goal.invariant-loop-place
invariant-loop-place l = record {
  is : l.least ≡ sum_of_run l.sizes l.chosen;
  before : l.chosen < l.place;
  fits : l.chosen + 8 ≤ length l.sizes;
  least : (i : ℕ) → i < l.place → l.least ≤ sum_of_run l.sizes i;
  first : (i : ℕ) → i < l.chosen → l.least < sum_of_run l.sizes i;
}
