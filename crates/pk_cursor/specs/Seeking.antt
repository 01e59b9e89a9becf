-- Where a seek goes, and how often it asks.
use Rattle.std.specs.Prelude.{◌≤◌, ◌<◌, ◌+◌, ◌*◌, ◌^◌, ℕ, List, length, slice_index}

-- the first index of xs from n on whose number is at least the target, or the end
pub record IsFirst (xs : List ℕ) (n target m : ℕ) : Type 0 where
  pub from : n ≤ m
  pub within : m ≤ length xs
  pub below : (i : ℕ) → n ≤ i → i < m → slice_index xs i < target
  pub reaches : m < length xs → target ≤ slice_index xs m

-- the last number of block k
abbrev pub block_end : List ℕ → ℕ → ℕ
block_end xs k = slice_index xs (128 * k + 127)

-- of two blocks, the lower ends below the target, and the higher doesn't or is the end
pub record Between (xs : List ℕ) (blocks target low high : ℕ) : Type 0 where
  pub below : block_end xs low < target
  pub reaches : high < blocks → target ≤ block_end xs high

-- from one block on, a step was doubled so often: it passed half of the blocks up to the lower one
-- at least, and the higher one lies no more than the step above that; it asked up to `now` times
pub record IsGalloped (from low high asked now : ℕ) : Type 0 where
  pub doubled : ℕ
  pub passed : from + 2 ^ doubled ≤ low + 1
  pub size : high ≤ low + 2 ^ doubled
  pub asks : now ≤ asked + doubled + 1
