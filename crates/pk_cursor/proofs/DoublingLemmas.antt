-- Powers of two, and how often a search asks.
use Rattle.std.proofs.Common.{arith, sym, ap, ◌∙◌, ◌≡◌, ◌≤◌, ◌<◌, ◌+◌, ◌-◌, ◌*◌, ◌/◌, ◌^◌, ℕ, zero, suc, inl, inr}
use Rattle.std.proofs.lemmas.Bool.{cases_lt}
use Rattle.pk_cursor.specs.Seeking.{IsGalloped}
use Rattle.std.proofs.Math.Pow.{pow_mono}
use Rattle.std.proofs.Math.Nat.{pow-suc}

pub fewer : (t k : ℕ) → 2 ^ t < 2 ^ k → t < k
fewer t k h = elim (cases_lt t k) [ inl l ↦ l | inr l ↦ absurd (omega (arith, pow_mono l)) ]

pub doubled : (t step : ℕ) → step ≡ 2 ^ t → step * 2 ≡ 2 ^ (suc t)
doubled t step e = ap (λ (k : ℕ). k * 2) e ∙ sym (pow-suc 2 t)

-- half of what 2 ^ u holds, one question later
pub halves : (u size part now after total : ℕ) → 1 < size → size ≤ 2 ^ u → part ≤ size - size / 2 → now + u ≤ total → after ≤ now + 1 → (v : ℕ) × (part ≤ 2 ^ v) × (after + v ≤ total)
halves zero size part now after total some k p a one = absurd (omega arith)
halves (suc v) size part now after total some k p a one = (v, omega (arith, pow-suc 2 v), omega arith)

-- no step of a list is doubled more than twenty times
pub few_doubled : (t : ℕ) → 2 ^ t ≤ 1048576 → t ≤ 20
few_doubled t h = elim (cases_lt 20 t) [
  | inl l ↦ absurd (omega (arith, pow_mono l))
  | inr r ↦ r
]

-- what a gallop and the halving after it ask
pub all_asks : (from low high j first middle last k : ℕ) → IsGalloped from low high first middle → low < j
    → ((t : ℕ) → high - low ≤ 2 ^ t → last ≤ middle + t) → j - from < 2 ^ k → last ≤ first + 2 * k
all_asks from low high j first middle last k g o h z =
    let n = h g.doubled (omega (arith, g.size)) in
    let few = fewer g.doubled k (omega (arith, g.passed)) in
    omega (arith, n, g.asks, few)
