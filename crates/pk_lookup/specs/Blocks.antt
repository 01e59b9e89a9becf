-- Numbers of which each block of 128 rises.
use Rattle.std.specs.Prelude.{◌≡◌, ◌<◌, ◌+◌, ◌%◌, ℕ, List, length, slice_index}

-- each number rises that is not the first one of a block
abbrev pub RisesInBlocks : List ℕ → Type 0
RisesInBlocks xs = (i : ℕ) → i + 1 < length xs → 0 < (i + 1) % 128
    → slice_index xs i < slice_index xs (i + 1)

-- whole blocks, each of which rises
pub record AreBlocks (xs : List ℕ) : Type 0 where
  pub whole : length xs % 128 ≡ 0
  pub rise : RisesInBlocks xs
