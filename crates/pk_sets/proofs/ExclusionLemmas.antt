-- The difference of rising lists: its steps.
use Rattle.std.proofs.Common.{◌≡◌, ℕ, ◌<◌, ◌≤◌, ◌+◌, ◌-◌, List, [], ◌∷◌, ◌++◌, length, take, drop, slice_index, not, arith, refl, sym, ap, ap₂, ◌∙◌, ◌⊎◌, inl, inr}
use Rattle.std.specs.Simd.Lanes.{Each1, chunk}
use Rattle.std.specs.List.Sorted.{IsStrictlyIncreasing}
use Rattle.std.proofs.lemmas.Simd.{chunk-drop}
use Rattle.std.proofs.lemmas.Simd.{Each1-weaker}
use Rattle.std.proofs.lemmas.Bool.{cases_lt}
use Rattle.std.proofs.lemmas.List.{drop_all}
use Rattle.pk_sets.specs.Sets.{has, difference}
use Rattle.pk_sets.proofs.IntersectionLemmas.{Before, eq_false_turned, none_above, filter_same}
use Rattle.pk_sets.proofs.PartLemmas.{eq_same}
use Rattle.pk_sets.proofs.UnionLemmas.{Heads, head_of, rest_above, run_before, higher}

-- a number below all of the first list takes none away
lower_alone : (y : ℕ) (zs ys : List ℕ) → Each1 (λ z. y < z) zs → difference zs (y ∷ ys) ≡ difference zs ys
lower_alone y zs ys h =
    filter_same (λ z. not (has (y ∷ ys) z)) (λ z. not (has ys z)) zs
    (Each1-weaker (λ z. y < z) (λ z. not (has (y ∷ ys) z) ≡ not (has ys z)) (λ z above. rw (eq_false_turned z y above) refl) zs h)

difference_less : (x y : ℕ) (xs ys : List ℕ) → x < y → Each1 (λ z. y < z) ys → difference (x ∷ xs) (y ∷ ys) ≡ x ∷ difference xs (y ∷ ys)
difference_less x y xs ys h above = rw (none_above x (y ∷ ys) (h, higher x y ys (omega arith) above)) refl

difference_same : (x y : ℕ) (xs ys : List ℕ) → x ≡ y → Each1 (λ z. x < z) xs → difference (x ∷ xs) (y ∷ ys) ≡ difference xs ys
difference_same x y xs ys e above = rw (eq_same x y e) (lower_alone y xs ys (higher y x xs (omega arith) above))

difference_more : (x y : ℕ) (xs ys : List ℕ) → y < x → Each1 (λ z. x < z) xs → difference (x ∷ xs) (y ∷ ys) ≡ difference (x ∷ xs) ys
difference_more x y xs ys h above = lower_alone y (x ∷ xs) ys (h, higher y x xs (omega arith) above)

pub difference_none : (xs : List ℕ) → difference xs [] ≡ xs
difference_none [] = refl
difference_none (x ∷ xs) = ap (λ l. x ∷ l) (difference_none xs)

-- the head of a is kept where it is below the head of b
pub difference_step : (a b : List ℕ) (i j p q : ℕ) → Heads a b i j
    → (slice_index a i ≤ slice_index b j → p ≡ 1) → (slice_index b j < slice_index a i → p ≡ 0)
    → (slice_index b j ≤ slice_index a i → q ≡ 1) → (slice_index a i < slice_index b j → q ≡ 0)
    → difference (drop i a) (drop j b) ≡ take (1 - q) (slice_index a i ∷ []) ++ difference (drop (i + p) a) (drop (j + q) b)
difference_step a b i j p q h p1 p0 q1 q0 =
    let x = slice_index a i in
    let y = slice_index b j in
    let above_x = rest_above a h.rising_a i in
    let above_y = rest_above b h.rising_b j in
    let heads = ap₂ difference (head_of a i h.left) (head_of b j h.right) in
    elim (cases_lt x y) [
      | inl l ↦ (let kept : 1 - q ≡ 1 = omega arith in
          let go : i + p ≡ i + 1 = omega arith in
          let stay : j + q ≡ j = omega arith in
          rw (kept, go, stay) (heads ∙ difference_less x y (drop (i + 1) a) (drop (j + 1) b) l above_y ∙ ap (λ l. x ∷ difference (drop (i + 1) a) l) (sym (head_of b j h.right))))
      | inr r ↦ elim (cases_lt y x) [
        | inl l ↦ (let left_out : 1 - q ≡ 0 = omega arith in
            let stay : i + p ≡ i = omega arith in
            let go : j + q ≡ j + 1 = omega arith in
            rw (left_out, stay, go) (heads ∙ difference_more x y (drop (i + 1) a) (drop (j + 1) b) l above_x ∙ ap (λ l. difference l (drop (j + 1) b)) (sym (head_of a i h.left))))
        | inr s ↦ (let same : x ≡ y = omega arith in
            let left_out : 1 - q ≡ 0 = omega arith in
            let go_a : i + p ≡ i + 1 = omega arith in
            let go_b : j + q ≡ j + 1 = omega arith in
            rw (left_out, go_a, go_b) (heads ∙ difference_same x y (drop (i + 1) a) (drop (j + 1) b) same above_x))
      ]
    ]

-- where one list is at its end, the rest of the first follows
pub difference_rest : (a b : List ℕ) (i j : ℕ) → (length a ≤ i) ⊎ (length b ≤ j) → drop i a ≡ difference (drop i a) (drop j b)
difference_rest a b i j (inl h) =
    let gone : drop i a ≡ [] = drop_all i a h in
    rw gone refl
difference_rest a b i j (inr h) =
    let gone : drop j b ≡ [] = drop_all j b h in
    rw gone (sym (difference_none (drop i a)))

difference_front : (xs rest ys : List ℕ) → Before xs ys → difference (xs ++ rest) ys ≡ xs ++ difference rest ys
difference_front [] rest ys below = refl
difference_front (x ∷ xs) rest ys below = rw (none_above x ys below.0) (ap (λ l. x ∷ l) (difference_front xs rest ys below.1))

difference_back : (xs ys rest : List ℕ) → Each1 (λ y. Each1 (λ x. y < x) xs) ys → difference xs (ys ++ rest) ≡ difference xs rest
difference_back xs [] rest below = refl
difference_back xs (y ∷ ys) rest below = lower_alone y xs (ys ++ rest) below.0 ∙ difference_back xs ys rest below.1

-- the run of a below the number at j of b is kept
pub difference_run : (a b : List ℕ) → IsStrictlyIncreasing a → IsStrictlyIncreasing b → (i j w : ℕ) → i + w ≤ length a
    → (0 < w → slice_index a (i + w - 1) < slice_index b j) → difference (drop i a) (drop j b) ≡ chunk i w a ++ difference (drop (i + w) a) (drop j b)
difference_run a b inc_a inc_b i j w room h =
    ap (λ l. difference l (drop j b)) (chunk-drop i w a)
    ∙ difference_front (chunk i w a) (drop (i + w) a) (drop j b) (run_before a b inc_a inc_b i j w room h)

-- the run of b below the number at i of a can be passed
pub difference_pass : (a b : List ℕ) → IsStrictlyIncreasing a → IsStrictlyIncreasing b → (i j w : ℕ) → j + w ≤ length b
    → (0 < w → slice_index b (j + w - 1) < slice_index a i) → difference (drop i a) (drop j b) ≡ difference (drop i a) (drop (j + w) b)
difference_pass a b inc_a inc_b i j w room h =
    ap (difference (drop i a)) (chunk-drop j w b)
    ∙ difference_back (drop i a) (chunk j w b) (drop (j + w) b) (run_before b a inc_b inc_a j i w room h)

-- the run up to the place m
pub difference_to : (a b : List ℕ) → IsStrictlyIncreasing a → IsStrictlyIncreasing b → (i m j : ℕ) → i ≤ m → m ≤ length a
    → (i < m → slice_index a (m - 1) < slice_index b j) → difference (drop i a) (drop j b) ≡ chunk i (m - i) a ++ difference (drop m a) (drop j b)
difference_to a b inc_a inc_b i m j lower upper h =
    let place : i + (m - i) ≡ m = omega arith in
    difference_run a b inc_a inc_b i j (m - i) (omega arith) (λ some. rw place (h (omega arith)))
    ∙ ap (λ k. chunk i (m - i) a ++ difference (drop k a) (drop j b)) place

pub difference_past : (a b : List ℕ) → IsStrictlyIncreasing a → IsStrictlyIncreasing b → (i j m : ℕ) → j ≤ m → m ≤ length b
    → (j < m → slice_index b (m - 1) < slice_index a i) → difference (drop i a) (drop j b) ≡ difference (drop i a) (drop m b)
difference_past a b inc_a inc_b i j m lower upper h =
    let place : j + (m - j) ≡ m = omega arith in
    difference_pass a b inc_a inc_b i j (m - j) (omega arith) (λ some. rw place (h (omega arith)))
    ∙ ap (λ k. difference (drop i a) (drop k b)) place

-- the last of four
pub four_below : (a : List ℕ) (i x : ℕ) → slice_index a (i + 3) < x → 0 < 4 → slice_index a (i + 4 - 1) < x
four_below a i x h some =
    let last : i + 4 - 1 ≡ i + 3 = omega arith in
    rw last h
