-- Numbers one after another.
use Rattle.std.specs.Prelude.{ℕ, List, ◌≡◌, ◌<◌, ◌+◌, length, slice_index}

-- so many numbers from the first on, each one more than the one before it
pub record IsRun (first count : ℕ) (xs : List ℕ) : Type 0 where
  pub long : length xs ≡ count
  pub each : (i : ℕ) → i < count → slice_index xs i ≡ first + i
