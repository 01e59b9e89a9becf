-- Runs of eight neighbours in a list of sizes, and which of them a tidy takes.
use Rattle.std.specs.Prelude.{ℕ, ◌+◌, ◌≤◌, ◌<◌, List, length, sum, take, drop}
use Rattle.pk_model.specs.Limits.{tidy_run}

-- the sum of the run from a place on
abbrev pub sum_of_run : List ℕ → ℕ → ℕ
sum_of_run sizes at = sum (take tidy_run (drop at sizes))

-- The run of eight with the least sum is at the place, and no run as small stands before it.
pub record IsLeastRun (sizes : List ℕ) (at : ℕ) : Type 0 where
  pub fits : at + tidy_run ≤ length sizes
  pub least : (i : ℕ) → i + tidy_run ≤ length sizes → sum_of_run sizes at ≤ sum_of_run sizes i
  pub first : (i : ℕ) → i < at → sum_of_run sizes at < sum_of_run sizes i
