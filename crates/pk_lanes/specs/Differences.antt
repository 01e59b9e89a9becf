-- Differences of each number to the fourth before it, and the order of a block.
use Rattle.std.specs.Prelude.{◌≡◌, ℕ, ◌+◌, ◌%◌, ◌^◌, ◌<◌, List, ◌++◌, slice_index}

-- each of the 128 numbers xs is the difference at its index added to the fourth number before it,
-- modulo 2^32; the seed is the four numbers before the first
pub record Restores (seed ds xs : List ℕ) : Type 0 where
  pub step : (i : ℕ) → i < 128
      → slice_index xs i ≡ (slice_index ds i + slice_index (seed ++ xs) i) % 2 ^ 32

-- each of the 128 numbers xs is above the one just before it, the first above the last of the seed
abbrev pub IsAscending : List ℕ → List ℕ → Type 0
IsAscending seed xs = (i : ℕ) → i < 128 → slice_index (seed ++ xs) (3 + i) < slice_index xs i
