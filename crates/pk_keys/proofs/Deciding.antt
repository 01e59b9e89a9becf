-- What is left of a halving gives what all of it gives.
use Rattle.std.proofs.Common.{arith, refl, sym, inl, inr, ◌⊎◌, ◌∙◌, ◌≡◌, ◌≤◌, ◌<◌, ◌+◌, ◌-◌, ◌*◌, ◌/◌, ℕ, zero, suc, List}
use Rattle.std.proofs.lemmas.Bool.{cases_eq, eq-eqb, le-ltb, lt-ltb, ne_eqb}
use Rattle.pk_keys.specs.declared.pivots.Bounds.{Bounds}
use Rattle.pk_keys.specs.Keys.{decided, pivot_at}

-- some steps are left, and they give all
pub record Deciding (pivots : List ℕ) (key low high node : ℕ) (all : Bounds) : Type 0 where
  pub left : ℕ
  pub enough : high - low ≤ left
  pub same : all ≡ decided left pivots key low high node

-- the middle of a range
abbrev middle_of : ℕ → ℕ → ℕ
middle_of low high = low + (high - low) / 2

below_by : (n : ℕ) (pivots : List ℕ) (key low high node : ℕ) → low < high → (pivot_at pivots node ≡ 0 → ⊥) → (pivot_at pivots node ≡ key → ⊥) → key < pivot_at pivots node
    → decided (suc n) pivots key low high node ≡ decided n pivots key low (middle_of low high) (2 * node)
unfolding decided
below_by n pivots key low high node lt some other less = rw (lt-ltb low high lt, ne_eqb (pivot_at pivots node) 0 some, ne_eqb (pivot_at pivots node) key other, lt-ltb key (pivot_at pivots node) less) refl

above_by : (n : ℕ) (pivots : List ℕ) (key low high node : ℕ) → low < high → (pivot_at pivots node ≡ 0 → ⊥) → (pivot_at pivots node ≡ key → ⊥) → pivot_at pivots node ≤ key
    → decided (suc n) pivots key low high node ≡ decided n pivots key (middle_of low high + 1) high (2 * node + 1)
unfolding decided
above_by n pivots key low high node lt some other more = rw (lt-ltb low high lt, ne_eqb (pivot_at pivots node) 0 some, ne_eqb (pivot_at pivots node) key other, le-ltb key (pivot_at pivots node) more) refl

pub below : (pivots : List ℕ) (key low high node : ℕ) (all : Bounds) → low < high → (pivot_at pivots node ≡ 0 → ⊥) → (pivot_at pivots node ≡ key → ⊥) → key < pivot_at pivots node
    → Deciding pivots key low high node all → Deciding pivots key low (middle_of low high) (2 * node) all
below pivots key low high node all lt some other less d = by d.left d.enough d.same
  where
    by : (left : ℕ) → high - low ≤ left → all ≡ decided left pivots key low high node → Deciding pivots key low (middle_of low high) (2 * node) all
    by zero enough same = absurd (omega (arith, lt))
    by (suc n) enough same = record { left = n; enough = omega (arith, lt, enough); same = same ∙ below_by n pivots key low high node lt some other less }

pub above : (pivots : List ℕ) (key low high node : ℕ) (all : Bounds) → low < high → (pivot_at pivots node ≡ 0 → ⊥) → (pivot_at pivots node ≡ key → ⊥) → pivot_at pivots node ≤ key
    → Deciding pivots key low high node all → Deciding pivots key (middle_of low high + 1) high (2 * node + 1) all
above pivots key low high node all lt some other more d = by d.left d.enough d.same
  where
    by : (left : ℕ) → high - low ≤ left → all ≡ decided left pivots key low high node → Deciding pivots key (middle_of low high + 1) high (2 * node + 1) all
    by zero enough same = absurd (omega (arith, lt))
    by (suc n) enough same = record { left = n; enough = omega (arith, lt, enough); same = same ∙ above_by n pivots key low high node lt some other more }

-- the end: no range is left
pub ended : (pivots : List ℕ) (key low high node : ℕ) (all : Bounds) → high ≤ low → Deciding pivots key low high node all → record { low = low; high = high; node = node } ≡ all
unfolding decided
ended pivots key low high node all none d = by d.left d.same
  where
    by : (left : ℕ) → all ≡ decided left pivots key low high node → record { low = low; high = high; node = node } ≡ all
    by zero same = sym same
    by (suc n) same = sym (same ∙ rw (le-ltb low high none) refl)

stop : (n : ℕ) (pivots : List ℕ) (key low high node : ℕ) → low < high → (pivot_at pivots node ≡ 0) ⊎ (pivot_at pivots node ≡ key) → decided (suc n) pivots key low high node ≡ record { low = low; high = high; node = node }
unfolding decided
stop n pivots key low high node lt (inl none) = rw (lt-ltb low high lt, eq-eqb (pivot_at pivots node) 0 none) refl
stop n pivots key low high node lt (inr same) = by (cases_eq (pivot_at pivots node) 0)
  where
    by : (pivot_at pivots node ≡ 0) ⊎ (pivot_at pivots node ≡ 0 → ⊥) → decided (suc n) pivots key low high node ≡ record { low = low; high = high; node = node }
    by (inl none) = rw (lt-ltb low high lt, eq-eqb (pivot_at pivots node) 0 none) refl
    by (inr some) = rw (lt-ltb low high lt, ne_eqb (pivot_at pivots node) 0 some, eq-eqb (pivot_at pivots node) key same) refl

-- or the key of the middle is not known, or the same
pub met : (pivots : List ℕ) (key low high node : ℕ) (all : Bounds) → low < high → (pivot_at pivots node ≡ 0) ⊎ (pivot_at pivots node ≡ key) → Deciding pivots key low high node all → record { low = low; high = high; node = node } ≡ all
met pivots key low high node all lt why d = by d.left d.enough d.same
  where
    by : (left : ℕ) → high - low ≤ left → all ≡ decided left pivots key low high node → record { low = low; high = high; node = node } ≡ all
    by zero enough same = absurd (omega (arith, lt))
    by (suc n) enough same = sym (same ∙ stop n pivots key low high node lt why)
