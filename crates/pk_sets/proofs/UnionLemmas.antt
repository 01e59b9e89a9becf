-- The union of rising lists: its steps, its order, its members and its size.
use Rattle.std.proofs.Common.{◌≡◌, ℕ, suc, ◌<◌, ◌≤◌, ◌+◌, ◌-◌, List, [], ◌∷◌, ◌++◌, length, take, drop, slice_index, Bool, true, false, cond, nat_eq, nat_lt, min, arith, refl, sym, ap, ap₂, ◌∙◌, ◌⊎◌, inl, inr, append-nil, drop-cons}
use Rattle.std.specs.Simd.Lanes.{Each1, chunk}
use Rattle.std.proofs.lemmas.Simd.{chunk-drop}
use Rattle.std.specs.List.Sorted.{IsStrictlyIncreasing}
use Rattle.std.proofs.lemmas.Simd.{Each1-weaker}
use Rattle.std.proofs.lemmas.Bool.{cases_lt}
use Rattle.std.proofs.lemmas.Bool.Decides.{nat_tests}
use Rattle.std.proofs.lemmas.List.{drop_all, take-append-drop}
use Rattle.pk_sets.specs.Sets.{union, with_number}
use Rattle.pk_sets.proofs.IntersectionLemmas.{Rising, Before, eq_false_turned}
use Rattle.pk_sets.proofs.PartLemmas.{eq_same, each_drop, each_chunk, at_most, below}

lt_true : (x y : ℕ) → x < y → nat_lt x y ≡ true
lt_true x y h = grind (arith, nat_tests)

lt_false : (x y : ℕ) → y ≤ x → nat_lt x y ≡ false
lt_false x y h = grind (arith, nat_tests)

pub higher : (x y : ℕ) (ys : List ℕ) → x ≤ y → Each1 (λ z. y < z) ys → Each1 (λ z. x < z) ys
higher x y ys h above = Each1-weaker (λ z. y < z) (λ z. x < z) (λ z l. omega arith) ys above

pub with_less : (x y : ℕ) (ys : List ℕ) → x < y → with_number x (y ∷ ys) ≡ x ∷ y ∷ ys
with_less x y ys h = rw (lt_true x y h) refl

-- a number below all stands first
pub with_front : (x : ℕ) (ys : List ℕ) → Each1 (λ y. x < y) ys → with_number x ys ≡ x ∷ ys
with_front x [] h = refl
with_front x (y ∷ ys) h = with_less x y ys h.0

pub with_same : (x y : ℕ) (ys : List ℕ) → x ≡ y → with_number x (y ∷ ys) ≡ y ∷ ys
with_same x y ys e = rw (lt_false x y (omega arith), eq_same x y e) refl

pub with_past : (x y : ℕ) (ys : List ℕ) → y < x → with_number x (y ∷ ys) ≡ y ∷ with_number x ys
with_past x y ys h = rw (lt_false x y (omega arith), eq_false_turned x y h) refl

each_case : (P : ℕ → Type 0) (x y : ℕ) (ys more : List ℕ) (b c : Bool) → P x → Each1 P (y ∷ ys) → Each1 P more
    → Each1 P (cond b (x ∷ y ∷ ys) (cond c (y ∷ ys) (y ∷ more)))
each_case P x y ys more true c p h m = (p, h)
each_case P x y ys more false true p h m = h
each_case P x y ys more false false p h m = (h.0, m)

each_with : (P : ℕ → Type 0) (x : ℕ) (ys : List ℕ) → P x → Each1 P ys → Each1 P (with_number x ys)
each_with P x [] p h = (p, tt)
each_with P x (y ∷ ys) p h = each_case P x y ys (with_number x ys) (nat_lt x y) (nat_eq x y) p h (each_with P x ys p h.1)

each_union : (P : ℕ → Type 0) (xs ys : List ℕ) → Each1 P xs → Each1 P ys → Each1 P (union xs ys)
each_union P [] ys h k = k
each_union P (x ∷ xs) ys h k = each_with P x (union xs ys) h.0 (each_union P xs ys h.1 k)

rising_with : (x : ℕ) (ys : List ℕ) → Rising ys → Rising (with_number x ys)
rising_with x [] h = (tt, tt)
rising_with x (y ∷ ys) h = elim (cases_lt x y) [
  | inl l ↦ rw (with_front x (y ∷ ys) (l, higher x y ys (omega arith) h.0)) ((l, higher x y ys (omega arith) h.0), h)
  | inr r ↦ elim (cases_lt y x) [
    | inl l ↦ rw (with_past x y ys l) (each_with (λ z. y < z) x ys l h.0, rising_with x ys h.1)
    | inr s ↦ (let e : x ≡ y = omega arith in rw (with_same x y ys e) h)
  ]
]

pub rising_union : (xs ys : List ℕ) → Rising ys → Rising (union xs ys)
rising_union [] ys h = h
rising_union (x ∷ xs) ys h = rising_with x (union xs ys) (rising_union xs ys h)

-- a number of the second list that is below the first list stands first
union_past : (y : ℕ) (zs ys : List ℕ) → Each1 (λ z. y < z) zs → union zs (y ∷ ys) ≡ y ∷ union zs ys
union_past y [] ys h = refl
union_past y (z ∷ zs) ys h = rw (union_past y zs ys h.1) (with_past z y (union zs ys) h.0)

pub union_none : (xs : List ℕ) → Rising xs → union xs [] ≡ xs
union_none [] h = refl
union_none (x ∷ xs) h = rw (union_none xs h.1) (with_front x xs h.0)

union_less : (x y : ℕ) (xs ys : List ℕ) → x < y → Each1 (λ z. x < z) xs → Each1 (λ z. y < z) ys → union (x ∷ xs) (y ∷ ys) ≡ x ∷ union xs (y ∷ ys)
union_less x y xs ys h above_x above_y =
    with_front x (union xs (y ∷ ys)) (each_union (λ z. x < z) xs (y ∷ ys) above_x (h, higher x y ys (omega arith) above_y))

union_same : (x y : ℕ) (xs ys : List ℕ) → x ≡ y → Each1 (λ z. x < z) xs → union (x ∷ xs) (y ∷ ys) ≡ y ∷ union xs ys
union_same x y xs ys e above = rw (union_past y xs ys (higher y x xs (omega arith) above)) (with_same x y (union xs ys) e)

union_more : (x y : ℕ) (xs ys : List ℕ) → y < x → Each1 (λ z. x < z) xs → union (x ∷ xs) (y ∷ ys) ≡ y ∷ union (x ∷ xs) ys
union_more x y xs ys h above = union_past y (x ∷ xs) ys (h, higher y x xs (omega arith) above)

-- of two rising lists, the number at i of a and the one at j of b
pub record Heads (a b : List ℕ) (i j : ℕ) : Type 0 where
  pub rising_a : IsStrictlyIncreasing a
  pub rising_b : IsStrictlyIncreasing b
  pub left : i < length a
  pub right : j < length b

pub head_of : (xs : List ℕ) (i : ℕ) → i < length xs → drop i xs ≡ slice_index xs i ∷ drop (i + 1) xs
head_of xs i h =
    let one : suc i ≡ i + 1 = omega arith in
    drop-cons xs i 0 h ∙ ap (λ m. slice_index xs i ∷ drop m xs) one

pub rest_above : (xs : List ℕ) → IsStrictlyIncreasing xs → (i : ℕ) → Each1 (λ z. slice_index xs i < z) (drop (i + 1) xs)
rest_above xs inc i = each_drop (λ z. slice_index xs i < z) (i + 1) xs (λ k l m. below xs inc i k (omega arith) m)

-- the lower head, or one of two equal heads, is the first of the union
pub union_step : (a b : List ℕ) (i j p q : ℕ) → Heads a b i j
    → (slice_index a i ≤ slice_index b j → p ≡ 1) → (slice_index b j < slice_index a i → p ≡ 0)
    → (slice_index b j ≤ slice_index a i → q ≡ 1) → (slice_index a i < slice_index b j → q ≡ 0)
    → union (drop i a) (drop j b) ≡ min (slice_index a i) (slice_index b j) ∷ union (drop (i + p) a) (drop (j + q) b)
union_step a b i j p q h p1 p0 q1 q0 =
    let x = slice_index a i in
    let y = slice_index b j in
    let above_x = rest_above a h.rising_a i in
    let above_y = rest_above b h.rising_b j in
    let heads = ap₂ union (head_of a i h.left) (head_of b j h.right) in
    elim (cases_lt x y) [
      | inl l ↦ (let low : min x y ≡ x = omega arith in
          let go : i + p ≡ i + 1 = omega arith in
          let stay : j + q ≡ j = omega arith in
          rw (low, go, stay) (heads ∙ union_less x y (drop (i + 1) a) (drop (j + 1) b) l above_x above_y ∙ ap (λ l. x ∷ union (drop (i + 1) a) l) (sym (head_of b j h.right))))
      | inr r ↦ elim (cases_lt y x) [
        | inl l ↦ (let low : min x y ≡ y = omega arith in
            let stay : i + p ≡ i = omega arith in
            let go : j + q ≡ j + 1 = omega arith in
            rw (low, stay, go) (heads ∙ union_more x y (drop (i + 1) a) (drop (j + 1) b) l above_x ∙ ap (λ l. y ∷ union l (drop (j + 1) b)) (sym (head_of a i h.left))))
        | inr s ↦ (let same : x ≡ y = omega arith in
            let low : min x y ≡ y = omega arith in
            let go_a : i + p ≡ i + 1 = omega arith in
            let go_b : j + q ≡ j + 1 = omega arith in
            rw (low, go_a, go_b) (heads ∙ union_same x y (drop (i + 1) a) (drop (j + 1) b) same above_x))
      ]
    ]

-- where one list is at its end, the rest of the other follows
pub union_rest : (a b : List ℕ) (i j : ℕ) → Rising (drop i a) → (length a ≤ i) ⊎ (length b ≤ j) → drop i a ++ drop j b ≡ union (drop i a) (drop j b)
union_rest a b i j rising (inl h) =
    let gone : drop i a ≡ [] = drop_all i a h in
    rw gone refl
union_rest a b i j rising (inr h) =
    let gone : drop j b ≡ [] = drop_all j b h in
    rw gone (append-nil (drop i a) ∙ sym (union_none (drop i a) rising))

-- each side goes on by one at most, and one of them does
pub record GoesOn (p q : ℕ) : Type 0 where
  pub left : p ≤ 1
  pub right : q ≤ 1
  pub one : 1 ≤ p + q

pub goes_on : (x y p q : ℕ) → (x ≤ y → p ≡ 1) → (y < x → p ≡ 0) → (y ≤ x → q ≡ 1) → (x < y → q ≡ 0) → GoesOn p q
goes_on x y p q p1 p0 q1 q0 = elim (cases_lt x y) [
  | inl l ↦ record { left = omega arith; right = omega arith; one = omega arith }
  | inr r ↦ elim (cases_lt y x) [
    | inl l ↦ record { left = omega arith; right = omega arith; one = omega arith }
    | inr s ↦ record { left = omega arith; right = omega arith; one = omega arith }
  ]
]

-- numbers of the second list that are below all of the first stand first
union_back : (xs ys rest : List ℕ) → Each1 (λ y. Each1 (λ x. y < x) xs) ys → union xs (ys ++ rest) ≡ ys ++ union xs rest
union_back xs [] rest below = refl
union_back xs (y ∷ ys) rest below = union_past y xs (ys ++ rest) below.0 ∙ ap (λ l. y ∷ l) (union_back xs ys rest below.1)

-- the w numbers at i of a are below the number at j of b
pub run_before : (a b : List ℕ) → IsStrictlyIncreasing a → IsStrictlyIncreasing b → (i j w : ℕ) → i + w ≤ length a
    → (0 < w → slice_index a (i + w - 1) < slice_index b j) → Before (chunk i w a) (drop j b)
run_before a b inc_a inc_b i j w room h =
    each_chunk (λ x. Each1 (λ y. x < y) (drop j b)) i w a room (λ k l m.
    each_drop (λ y. slice_index a k < y) j b (λ q r s.
    omega (arith, h (omega arith), at_most a inc_a k (i + w - 1) (omega arith) (omega arith), at_most b inc_b j q r s)))

-- the run of b below the number at i of a stands first
pub union_run : (a b : List ℕ) → IsStrictlyIncreasing a → IsStrictlyIncreasing b → (i j w : ℕ) → j + w ≤ length b
    → (0 < w → slice_index b (j + w - 1) < slice_index a i) → union (drop i a) (drop j b) ≡ chunk j w b ++ union (drop i a) (drop (j + w) b)
union_run a b inc_a inc_b i j w room h =
    ap (union (drop i a)) (chunk-drop j w b)
    ∙ union_back (drop i a) (chunk j w b) (drop (j + w) b) (run_before b a inc_b inc_a j i w room h)

-- the run up to the place m
pub union_to : (a b : List ℕ) → IsStrictlyIncreasing a → IsStrictlyIncreasing b → (i j m : ℕ) → j ≤ m → m ≤ length b
    → (j < m → slice_index b (m - 1) < slice_index a i) → union (drop i a) (drop j b) ≡ chunk j (m - j) b ++ union (drop i a) (drop m b)
union_to a b inc_a inc_b i j m lower upper h =
    let place : j + (m - j) ≡ m = omega arith in
    union_run a b inc_a inc_b i j (m - j) (omega arith) (λ some. rw place (h (omega arith)))
    ∙ ap (λ k. chunk j (m - j) b ++ union (drop i a) (drop k b)) place

-- a number below all of the second part has its place in the first
with_append : (x : ℕ) (ys rest : List ℕ) → Each1 (λ z. x < z) rest → with_number x (ys ++ rest) ≡ with_number x ys ++ rest
with_append x [] rest above = with_front x rest above
with_append x (y ∷ ys) rest above = elim (cases_lt x y) [
  | inl l ↦ rw (with_less x y (ys ++ rest) l, with_less x y ys l) refl
  | inr r ↦ elim (cases_lt y x) [
    | inl l ↦ rw (with_past x y (ys ++ rest) l, with_past x y ys l) (ap (λ l. y ∷ l) (with_append x ys rest above))
    | inr s ↦ (let e : x ≡ y = omega arith in rw (with_same x y (ys ++ rest) e, with_same x y ys e) refl)
  ]
]

-- where the first parts are below the second ones, their unions follow one another
union_parts : (xs more ys rest : List ℕ) → Before xs more → Before xs rest → Before ys more
    → union (xs ++ more) (ys ++ rest) ≡ union xs ys ++ union more rest
union_parts [] more ys rest h k l = union_back more ys rest l
union_parts (x ∷ xs) more ys rest h k l =
    ap (with_number x) (union_parts xs more ys rest h.1 k.1 l)
    ∙ with_append x (union xs ys) (union more rest) (each_union (λ z. x < z) more rest h.0 k.0)

-- the halves of a at i, and of b where it is no longer below the number at i of a
pub union_halves : (a b : List ℕ) → IsStrictlyIncreasing a → IsStrictlyIncreasing b → (i j : ℕ) → i < length a → j ≤ length b
    → (0 < j → slice_index b (j - 1) < slice_index a i) → (j < length b → slice_index a i ≤ slice_index b j)
    → union (take i a) (take j b) ++ union (drop i a) (drop j b) ≡ union a b
union_halves a b inc_a inc_b i j left right before here =
    let above_a : Before (take i a) (drop i a) =
    each_chunk (λ x. Each1 (λ y. x < y) (drop i a)) 0 i a (omega arith) (λ k l m.
    each_drop (λ y. slice_index a k < y) i a (λ q r s. below a inc_a k q (omega arith) s)) in
    let above_b : Before (take i a) (drop j b) =
    each_chunk (λ x. Each1 (λ y. x < y) (drop j b)) 0 i a (omega arith) (λ k l m.
    each_drop (λ y. slice_index a k < y) j b (λ q r s.
    omega (arith, below a inc_a k i (omega arith) left, here (omega arith), at_most b inc_b j q r s))) in
    let room : 0 + j ≤ length b = omega arith in
    let last : 0 < j → slice_index b (0 + j - 1) < slice_index a i = λ h. (let e : 0 + j - 1 ≡ j - 1 = omega arith in rw e (before h)) in
    sym (union_parts (take i a) (drop i a) (take j b) (drop j b) above_a above_b (run_before b a inc_b inc_a 0 i j room last))
    ∙ ap₂ union (take-append-drop i a) (take-append-drop j b)
