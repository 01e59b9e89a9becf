-- The lanes, joined by or, have the width of the numbers; the bit length of the greatest lane.
use Rattle.std.proofs.Common.{◌≡◌, ℕ, ◌<◌, ◌≤◌, ◌+◌, ◌-◌, ◌*◌, ◌^◌, List, length, slice_index, arith, ap, inl, inr}
use Rattle.std.proofs.lemmas.Bool.{cases_lt}
use Rattle.pk_lanes.specs.Progress.{Covers}
use Rattle.std.proofs.Common.{bit_or}
use Rattle.std.proofs.lemmas.Nat.{or_lt, le_or_l, le_or_r, pow_pos, pow-add, pow_below, leading_length}
use Rattle.std.proofs.Common.{[], ◌∷◌, Fits, w32}
use Rattle.std.specs.Simd.Lanes.{Each1, fold_l}
use Rattle.std.proofs.lemmas.Simd.{Each1-get_or}
use Rattle.pk_lanes.proofs.LaneLemmas.{four_lanes, below_four}
use lib.Count.{count_leading_zeros}

pub covers_none : (xs all : List ℕ) → ((c : ℕ) → c < 4 → slice_index all c ≡ 0) → Covers 0 xs all
covers_none xs all clear = record {
  fits = λ b f i h. absurd (omega arith);
  least = λ b f c h. omega (arith, clear c h, pow_pos b);
}

pub covers_more : (k : ℕ) (xs all x new : List ℕ) → Covers k xs all
    → ((c : ℕ) → c < 4 → slice_index x c ≡ slice_index xs (4 * k + c))
    → ((c : ℕ) → c < 4 → slice_index new c ≡ bit_or (slice_index all c) (slice_index x c))
    → Covers (k + 1) xs new
covers_more k xs all x new old value ors = record {
  fits = λ b f i h. elim (cases_lt i (4 * k)) [
    | inl l ↦ old.fits b (λ c m. omega (arith, f c m, ors c m, le_or_l (slice_index all c) (slice_index x c))) i l
    | inr r ↦ (let e : 4 * k + (i - 4 * k) ≡ i = omega arith in
        let m : i - 4 * k < 4 = omega arith in
        let v = rw e at (value (i - 4 * k) m) in
        omega (arith, f (i - 4 * k) m, ors (i - 4 * k) m, le_or_r (slice_index all (i - 4 * k)) (slice_index x (i - 4 * k)), v))
  ];
  least = λ b f c h.
      let a : slice_index all c < 2 ^ b = old.least b (λ i l. f i (omega arith)) c h in
      let v : slice_index x c < 2 ^ b = omega (arith, value c h, f (4 * k + c) (omega arith)) in
      omega (arith, ors c h, or_lt b (slice_index all c) (slice_index x c) a v);
}

-- each lane is at most the bits of all four
or_most : (xs : List ℕ) → length xs ≡ 4 → (c : ℕ) → c < 4 → slice_index xs c ≤ fold_l bit_or 0 xs
or_most = four_lanes (λ xs. (c : ℕ) → c < 4 → slice_index xs c ≤ fold_l bit_or 0 xs) (λ x0 x1 x2 x3.
    let y0 = bit_or 0 x0 in
    let y1 = bit_or y0 x1 in
    let y2 = bit_or y1 x2 in
    let l0 = le_or_r 0 x0 in
    let l1 = le_or_l y0 x1 in
    let r1 = le_or_r y0 x1 in
    let l2 = le_or_l y1 x2 in
    let r2 = le_or_r y1 x2 in
    let l3 = le_or_l y2 x3 in
    let r3 = le_or_r y2 x3 in
    below_four (λ c. slice_index (x0 ∷ x1 ∷ x2 ∷ x3 ∷ []) c ≤ bit_or (bit_or (bit_or (bit_or 0 x0) x1) x2) x3)
    (omega (arith, l0, l1, l2, l3)) (omega (arith, r1, l2, l3)) (omega (arith, r2, l3)) (omega (arith, r3)))

or_below : (b : ℕ) (xs : List ℕ) → length xs ≡ 4 → ((c : ℕ) → c < 4 → slice_index xs c < 2 ^ b) → fold_l bit_or 0 xs < 2 ^ b
or_below b = four_lanes (λ xs. ((c : ℕ) → c < 4 → slice_index xs c < 2 ^ b) → fold_l bit_or 0 xs < 2 ^ b) (λ x0 x1 x2 x3 f.
    or_lt b (bit_or (bit_or (bit_or 0 x0) x1) x2) x3 (or_lt b (bit_or (bit_or 0 x0) x1) x2 (or_lt b (bit_or 0 x0) x1 (or_lt b 0 x0 (pow_pos b) (f 0 (omega arith))) (f 1 (omega arith))) (f 2 (omega arith))) (f 3 (omega arith)))

power_most : (o m b : ℕ) → 2 ^ m ≤ 2 * o + 1 → o < 2 ^ b → m ≤ b
power_most o m b h k = elim (cases_lt b m) [
  | inl l ↦ absurd (elim (cases_lt (b + 1) m) [
    | inl n ↦ omega (arith, pow_below (b + 1) m n, pow-add 2 b 1)
    | inr r ↦ (let e : m ≡ b + 1 = omega arith in let f : 2 ^ m ≡ 2 ^ (b + 1) = ap (λ n. 2 ^ n) e in omega (arith, f, pow-add 2 b 1))
  ])
  | inr r ↦ r
]

pub greatest_fits : (xs : List ℕ) → length xs ≡ 4 → Each1 (Fits w32) xs → (c : ℕ) → c < 4 → slice_index xs c < 2 ^ (32 - count_leading_zeros 32 (fold_l bit_or 0 xs))
greatest_fits xs four own c h =
    let o = fold_l bit_or 0 xs in
    let small : o < 2 ^ 32 = or_below 32 xs four (λ c h. (Each1-get_or (Fits w32) xs c 0 (omega arith) own).fits) in
    let found = leading_length 32 o small in
    let size : 32 - count_leading_zeros 32 o ≡ found.0 = omega (arith, found.1) in
    rw size (omega (arith, or_most xs four c h, found.2))

pub greatest_least : (xs : List ℕ) → length xs ≡ 4 → Each1 (Fits w32) xs → (b : ℕ) → ((c : ℕ) → c < 4 → slice_index xs c < 2 ^ b)
    → 32 - count_leading_zeros 32 (fold_l bit_or 0 xs) ≤ b
greatest_least xs four own b f =
    let o = fold_l bit_or 0 xs in
    let small : o < 2 ^ 32 = or_below 32 xs four (λ c h. (Each1-get_or (Fits w32) xs c 0 (omega arith) own).fits) in
    let found = leading_length 32 o small in
    let most = power_most o (found.0) b (found.3) (or_below b xs four f) in
    omega (arith, found.1, most)
