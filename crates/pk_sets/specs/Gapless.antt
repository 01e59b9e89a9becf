-- Numbers one after another.
use Rattle.std.specs.Prelude.{ℕ, List, ◌≡◌, ◌<◌, ◌+◌, length, slice_index}

-- each is the first plus its index: none between the first and the last is missing
abbrev pub IsGapless : List ℕ → Type 0
IsGapless xs = (i : ℕ) → i < length xs → slice_index xs i ≡ slice_index xs 0 + i
