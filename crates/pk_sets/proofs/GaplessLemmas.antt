-- Rising numbers lie at least as far apart as their indices.
use Rattle.std.proofs.Common.{◌≡◌, ◌≤◌, ◌<◌, ◌+◌, ◌-◌, ℕ, zero, suc, List, length, slice_index, arith, subst}
use Rattle.std.specs.List.Sorted.{IsStrictlyIncreasing}
use Rattle.pk_sets.specs.Gapless.{IsGapless}

spaced_by : (xs : List ℕ) → IsStrictlyIncreasing xs → (i k : ℕ) → i + k < length xs → slice_index xs i + k ≤ slice_index xs (i + k)
spaced_by xs inc i zero lt =
    let same : i ≡ i + zero = omega arith in
    subst (λ (n : ℕ). slice_index xs i + zero ≤ slice_index xs n) same (omega arith)
spaced_by xs inc i (suc k) lt =
    let before = spaced_by xs inc i k (omega arith) in
    let next = inc (i + k) (omega arith) in
    let same : i + k + 1 ≡ i + suc k = omega arith in
    subst (λ (n : ℕ). slice_index xs i + suc k ≤ slice_index xs n) same (omega (arith, before, next))

spaced : (xs : List ℕ) → IsStrictlyIncreasing xs → (i j : ℕ) → i ≤ j → j < length xs → slice_index xs i + (j - i) ≤ slice_index xs j
spaced xs inc i j le lt =
    let same : i + (j - i) ≡ j = omega (arith, le) in
    subst (λ (n : ℕ). slice_index xs i + (j - i) ≤ slice_index xs n) same (spaced_by xs inc i (j - i) (omega (arith, le, lt)))

-- the last is not below the first
pub ordered : (xs : List ℕ) → IsStrictlyIncreasing xs → 0 < length xs → slice_index xs 0 ≤ slice_index xs (length xs - 1)
ordered xs inc some = let far = spaced xs inc 0 (length xs - 1) (omega arith) (omega arith) in omega (arith, far)

-- where the last is as far from the first as its index, so is each
pub gapless_by_ends : (xs : List ℕ) → IsStrictlyIncreasing xs → slice_index xs (length xs - 1) - slice_index xs 0 ≡ length xs - 1 → IsGapless xs
gapless_by_ends xs inc far i lt =
    let low = spaced xs inc 0 i (omega arith) lt in
    let high = spaced xs inc i (length xs - 1) (omega arith) (omega arith) in
    omega (arith, low, high, far)
