-- Four lanes above four others, and the numbers one place before a vector.
use Rattle.std.proofs.Common.{rules, ◌≡◌, ℕ, ◌<◌, ◌+◌, ◌-◌, ◌*◌, ◌%◌, ◌^◌, List, ◌++◌, length, slice_index, get_or, arith, refl, sym, ap, ◌∙◌}
use Rattle.std.proofs.lemmas.List.{get_or-append_right, places}
use borrow.Rule.Slice.PartMut.{mid_of}
use Rattle.std.specs.Simd.Lanes.{chunk}
use Rattle.std.proofs.lemmas.Simd.{get_or-chunk}
use Rattle.std.proofs.Common.{[], ◌∷◌, w32}
use Rattle.std.specs.Simd.Lanes.{zip2, mask_l, top}
use Rattle.std.proofs.Common.{map, Bool, true, false, ◌&&◌, nat_eq, nat_lt, cond, ◌↔◌, IsTrue}
use Rattle.std.proofs.lemmas.Simd.{tops_compared}
use Rattle.std.proofs.lemmas.Bool.Decides.{nat_tests}
use Rattle.pk_lanes.proofs.LaneLemmas.{four_lanes, below_four}

all_case : (p q r s : Bool) → nat_eq (mask_l (p ∷ q ∷ r ∷ s ∷ []) % 2 ^ 64) 15 ≡ (p && (q && (r && s)))
all_case true true true true = refl
all_case true true true false = refl
all_case true true false true = refl
all_case true true false false = refl
all_case true false true true = refl
all_case true false true false = refl
all_case true false false true = refl
all_case true false false false = refl
all_case false true true true = refl
all_case false true true false = refl
all_case false true false true = refl
all_case false true false false = refl
all_case false false true true = refl
all_case false false true false = refl
all_case false false false true = refl
all_case false false false false = refl

abbrev pub below_mask : ℕ → ℕ → ℕ
below_mask x y = cond (nat_lt x y) (2 ^ 32 - 1) 0

pub all_below_is : (a : List ℕ) → length a ≡ 4 → (b : List ℕ) → length b ≡ 4
    → nat_eq (mask_l (map (top 31) (zip2 below_mask a b)) % 2 ^ 64) 15
    ≡ (nat_lt (slice_index a 0) (slice_index b 0) && (nat_lt (slice_index a 1) (slice_index b 1) && (nat_lt (slice_index a 2) (slice_index b 2) && nat_lt (slice_index a 3) (slice_index b 3))))
all_below_is = four_lanes (λ a. (b : List ℕ) → length b ≡ 4
    → nat_eq (mask_l (map (top 31) (zip2 below_mask a b)) % 2 ^ 64) 15
    ≡ (nat_lt (slice_index a 0) (slice_index b 0) && (nat_lt (slice_index a 1) (slice_index b 1) && (nat_lt (slice_index a 2) (slice_index b 2) && nat_lt (slice_index a 3) (slice_index b 3))))) (λ x0 x1 x2 x3.
    four_lanes (λ b. nat_eq (mask_l (map (top 31) (zip2 below_mask (x0 ∷ x1 ∷ x2 ∷ x3 ∷ []) b)) % 2 ^ 64) 15
    ≡ (nat_lt x0 (slice_index b 0) && (nat_lt x1 (slice_index b 1) && (nat_lt x2 (slice_index b 2) && nat_lt x3 (slice_index b 3))))) (λ y0 y1 y2 y3.
    ap (λ m. nat_eq (mask_l m % 2 ^ 64) 15) (tops_compared w32 nat_lt (x0 ∷ x1 ∷ x2 ∷ x3 ∷ []) (y0 ∷ y1 ∷ y2 ∷ y3 ∷ []))
    ∙ all_case (nat_lt x0 y0) (nat_lt x1 y1) (nat_lt x2 y2) (nat_lt x3 y3)))

four_true : (p q r s : Bool) → IsTrue (p && (q && (r && s))) → IsTrue p × IsTrue q × IsTrue r × IsTrue s
four_true true true true true t = (t, t, t, t)
four_true true true true false t = absurd (let f : false ≡ true = t in cc)
four_true true true false s t = absurd (let f : false ≡ true = t in cc)
four_true true false r s t = absurd (let f : false ≡ true = t in cc)
four_true false q r s t = absurd (let f : false ≡ true = t in cc)

true_four : (p q r s : Bool) → IsTrue p → IsTrue q → IsTrue r → IsTrue s → IsTrue (p && (q && (r && s)))
true_four true true true true a b c d = a
true_four true true true false a b c d = d
true_four true true false s a b c d = c
true_four true false r s a b c d = b
true_four false q r s a b c d = a

lt_told : (x y : ℕ) → IsTrue (nat_lt x y) → x < y
lt_told x y t = grind (arith, nat_tests)

lt_true : (x y : ℕ) → x < y → IsTrue (nat_lt x y)
lt_true x y h = grind (arith, nat_tests)

pub all_below : (a : List ℕ) → length a ≡ 4 → (b : List ℕ) → length b ≡ 4
    → IsTrue (nat_eq (mask_l (map (top 31) (zip2 below_mask a b)) % 2 ^ 64) 15) ↔ ((c : ℕ) → c < 4 → slice_index a c < slice_index b c)
all_below a four b four_b =
    let e = all_below_is a four b four_b in (
      λ t. let all = four_true (nat_lt (slice_index a 0) (slice_index b 0)) (nat_lt (slice_index a 1) (slice_index b 1)) (nat_lt (slice_index a 2) (slice_index b 2)) (nat_lt (slice_index a 3) (slice_index b 3)) (rw e at t) in
          below_four (λ c. slice_index a c < slice_index b c) (lt_told _ _ (all.0)) (lt_told _ _ (all.1)) (lt_told _ _ (all.2)) (lt_told _ _ (all.3)),
      λ f. rw e (true_four _ _ _ _ (lt_true _ _ (f 0 (omega arith))) (lt_true _ _ (f 1 (omega arith))) (lt_true _ _ (f 2 (omega arith))) (lt_true _ _ (f 3 (omega arith)))),
    )

mid_get : (a n : ℕ) (xs : List ℕ) (c : ℕ) → c < n → get_or (mid_of a n xs) c 0 ≡ get_or xs (a + c) 0
mid_get a n xs c h = search (rules, places)

pub before_is : (seed xs : List ℕ) (k c : ℕ) → length seed ≡ 4 → 0 < k → k < 32 → c < 4
    → slice_index (chunk 0 4 (mid_of (4 * k - 1) (128 - (4 * k - 1)) xs)) c ≡ slice_index (seed ++ xs) (3 + (4 * k + c))
before_is seed xs k c four some room h =
    let place : 4 * k - 1 + (0 + c) ≡ 3 + (4 * k + c) - 4 = omega arith in
    get_or-chunk 0 4 (mid_of (4 * k - 1) (128 - (4 * k - 1)) xs) c 0 h
    ∙ mid_get (4 * k - 1) (128 - (4 * k - 1)) xs (0 + c) (omega arith)
    ∙ ap (slice_index xs) place ∙ sym (get_or-append_right seed xs 4 (3 + (4 * k + c)) 0 four (omega arith))
