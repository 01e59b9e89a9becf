-- Rising lists by their members, and with a number put in: what callers cite is at the end.
use Rattle.std.proofs.Common.{◌≡◌, ℕ, zero, suc, ◌<◌, ◌≤◌, ◌+◌, List, [], ◌∷◌, length, get_or, Bool, true, false, ◌||◌, ◌==◌, nat_lt, arith, refl, sym, ap, ap₂, ◌∙◌, subst, inl, inr}
use Rattle.std.specs.List.{list_any, insert, AllByRecursion}
use Rattle.std.specs.List.Sorted.{IsStrictlyIncreasing}
use Rattle.std.proofs.lemmas.List.Kept.{AllPairs-from_increasing}
use Rattle.std.proofs.lemmas.Bool.{cases_lt}
use Rattle.std.proofs.lemmas.Bool.Decides.{nat_tests}
use Rattle.pk_dead.specs.Sets.{with_number}

-- whether k is one of the numbers
abbrev pub has : List ℕ → ℕ → Bool
has ns k = list_any (λ m. m == k) ns

-- TESTS

pub eq_same : (x y : ℕ) → x ≡ y → (x == y) ≡ true
eq_same x y h = grind (arith, nat_tests)

pub eq_less : (x y : ℕ) → x < y → (x == y) ≡ false
eq_less x y h = grind (arith, nat_tests)

pub eq_more : (x y : ℕ) → y < x → (x == y) ≡ false
eq_more x y h = grind (arith, nat_tests)

eq_turned : (x y : ℕ) → (x == y) ≡ (y == x)
eq_turned x y = grind (arith, nat_tests)

lt_true : (x y : ℕ) → x < y → nat_lt x y ≡ true
lt_true x y h = grind (arith, nat_tests)

lt_false : (x y : ℕ) → y ≤ x → nat_lt x y ≡ false
lt_false x y h = grind (arith, nat_tests)

-- ORDER

-- x is below each number
abbrev pub Below : ℕ → List ℕ → Type 0
Below x ys = AllByRecursion (λ y. x < y) ys

-- each number is below all that come after it
abbrev pub Rising : List ℕ → Type 0
Rising [] = Unit {0}
Rising (x ∷ xs) = Below x xs × Rising xs

lower : (x y : ℕ) (zs : List ℕ) → x < y → Below y zs → Below x zs
lower x y [] h b = tt
lower x y (z ∷ zs) h b = (omega (arith, b.0), lower x y zs h b.1)

below_from : (x : ℕ) (ys : List ℕ) → ((k : ℕ) → k < length ys → x < get_or ys k 0) → Below x ys
below_from x [] f = tt
below_from x (y ∷ ys) f = (f 0 (omega arith), below_from x ys (λ k h. f (suc k) (omega arith)))

rising_by : (xs : List ℕ) → ((i j : ℕ) → i < j → j < length xs → get_or xs i 0 < get_or xs j 0) → Rising xs
rising_by [] f = tt
rising_by (x ∷ xs) f = (
  below_from x xs (λ k h. f 0 (suc k) (omega arith) (omega arith)),
  rising_by xs (λ i j h k. f (suc i) (suc j) (omega arith) (omega arith)),
)

pub rising_from : (xs : List ℕ) → IsStrictlyIncreasing xs → Rising xs
rising_from xs inc = rising_by xs (λ i j h k. AllPairs-from_increasing xs inc i j 0 h k)

pub increasing_from : (xs : List ℕ) → Rising xs → IsStrictlyIncreasing xs
increasing_from [] h k l = absurd (omega arith)
increasing_from (x ∷ []) h k l = absurd (omega arith)
increasing_from (x ∷ y ∷ ys) h zero l = h.0.0
increasing_from (x ∷ y ∷ ys) h (suc k) l =
    let e : suc k + 1 ≡ suc (k + 1) = omega arith in
    rw e (increasing_from (y ∷ ys) h.1 k (omega arith))

-- MEMBERS

has_first : (x : ℕ) (xs : List ℕ) → has (x ∷ xs) x ≡ true
has_first x xs = rw (eq_same x x refl) refl

-- a number below all is not there
not_below : (x : ℕ) (ys : List ℕ) → Below x ys → has ys x ≡ false
not_below x [] h = refl
not_below x (y ∷ ys) h = rw (eq_more y x h.0) (not_below x ys h.1)

-- what is below the first number is not there
not_before : (x y : ℕ) (ys : List ℕ) → x < y → Below y ys → has (y ∷ ys) x ≡ false
not_before x y ys l h = not_below x (y ∷ ys) (l, lower x y ys l h)

-- a number above the first is there where it is among the others
has_after : (x k : ℕ) (xs : List ℕ) → x < k → has (x ∷ xs) k ≡ has xs k
has_after x k xs l = rw (eq_less x k l) refl

differ : (b c : Bool) → b ≡ true → c ≡ false → b ≡ c → ⊥
differ b c e f h = cc

-- a number of a list that x is below is above x
above_of : (x k : ℕ) (ys : List ℕ) → Below x ys → has ys k ≡ true → x < k
above_of x k ys b h = elim (cases_lt x k) [
  | inl l ↦ l
  | inr r ↦ elim (cases_lt k x) [
    | inl l ↦ absurd (differ (has ys k) false h refl (not_below k ys (lower k x ys l b)))
    | inr s ↦ (let e : x ≡ k = omega arith in absurd (differ (has ys k) false h refl (ap (has ys) (sym e) ∙ not_below x ys b)))
  ]
]

pub has_none : (n : ℕ) (ns : List ℕ) → ((k : ℕ) → k < length ns → get_or ns k 0 ≡ n → ⊥) → has ns n ≡ false
has_none n [] f = refl
has_none n (m ∷ ms) f = elim (cases_lt m n) [
  | inl l ↦ rw (eq_less m n l) (has_none n ms (λ k h. f (suc k) (omega arith)))
  | inr r ↦ elim (cases_lt n m) [
    | inl l ↦ rw (eq_more m n l) (has_none n ms (λ k h. f (suc k) (omega arith)))
    | inr s ↦ absurd (f 0 (omega arith) (omega arith))
  ]
]

-- A NUMBER PUT IN

pub with_less : (n m : ℕ) (ms : List ℕ) → n < m → with_number n (m ∷ ms) ≡ n ∷ m ∷ ms
unfolding with_number
with_less n m ms h = rw (lt_true n m h) refl

pub with_same : (n m : ℕ) (ms : List ℕ) → n ≡ m → with_number n (m ∷ ms) ≡ m ∷ ms
unfolding with_number
with_same n m ms e = rw (lt_false n m (omega arith), eq_same n m e) refl

pub with_past : (n m : ℕ) (ms : List ℕ) → m < n → with_number n (m ∷ ms) ≡ m ∷ with_number n ms
unfolding with_number
with_past n m ms h = rw (lt_false n m (omega arith), eq_more n m h) refl

pub with_none : (n : ℕ) → with_number n [] ≡ n ∷ []
unfolding with_number
with_none n = refl

-- by where n stands to the first number
pub with_cases : (n m : ℕ) (ms : List ℕ) (P : List ℕ → Type 0) → (n < m → P (n ∷ m ∷ ms)) → (n ≡ m → P (m ∷ ms))
    → (m < n → P (m ∷ with_number n ms)) → P (with_number n (m ∷ ms))
with_cases n m ms P less same past = elim (cases_lt n m) [
  | inl l ↦ subst P (sym (with_less n m ms l)) (less l)
  | inr r ↦ elim (cases_lt m n) [
    | inl l ↦ subst P (sym (with_past n m ms l)) (past l)
    | inr s ↦ (let e : n ≡ m = omega arith in subst P (sym (with_same n m ms e)) (same e))
  ]
]

-- its place is where the numbers below it end
pub with_place : (n : ℕ) (ns : List ℕ) (at : ℕ) → at ≤ length ns → ((k : ℕ) → k < at → get_or ns k 0 < n)
    → ((k : ℕ) → at ≤ k → k < length ns → n < get_or ns k 0) → with_number n ns ≡ insert ns at n
with_place n [] zero h below above = with_none n
with_place n [] (suc i) h below above = absurd (omega arith)
with_place n (m ∷ ms) zero h below above = with_less n m ms (above 0 (omega arith) (omega arith))
with_place n (m ∷ ms) (suc i) h below above =
    with_past n m ms (below 0 (omega arith))
    ∙ ap (λ l. m ∷ l) (with_place n ms i (omega arith) (λ k l. below (suc k) (omega arith)) (λ k l r. above (suc k) (omega arith) (omega arith)))

below_with : (x n : ℕ) (ns : List ℕ) → x < n → Below x ns → Below x (with_number n ns)
below_with x n [] h b = subst (Below x) (sym (with_none n)) (h, tt)
below_with x n (m ∷ ms) h b = with_cases n m ms (Below x) (λ l. (h, b)) (λ e. b) (λ l. (b.0, below_with x n ms h b.1))

rising_with : (n : ℕ) (ns : List ℕ) → Rising ns → Rising (with_number n ns)
rising_with n [] h = subst Rising (sym (with_none n)) (tt, tt)
rising_with n (m ∷ ms) h =
    with_cases n m ms Rising (λ l. ((l, lower n m ms l h.0), h)) (λ e. h) (λ l. (below_with m n ms l h.0, rising_with n ms h.1))

or_swap : (b c d : Bool) → (b || (c || d)) ≡ (c || (b || d))
or_swap true true d = refl
or_swap true false d = refl
or_swap false true d = refl
or_swap false false d = refl

or_twice : (b c : Bool) → (b || c) ≡ (b || (b || c))
or_twice true c = refl
or_twice false c = refl

same_rising : (xs ys : List ℕ) → Rising xs → Rising ys → ((k : ℕ) → has xs k ≡ has ys k) → xs ≡ ys
same_rising [] [] h k same = refl
same_rising [] (y ∷ ys) h k same = absurd (differ (has (y ∷ ys) y) false (has_first y ys) refl (sym (same y)))
same_rising (x ∷ xs) [] h k same = absurd (differ (has (x ∷ xs) x) false (has_first x xs) refl (same x))
same_rising (x ∷ xs) (y ∷ ys) h k same = elim (cases_lt x y) [
  | inl l ↦ absurd (differ (has (x ∷ xs) x) (has (y ∷ ys) x) (has_first x xs) (not_before x y ys l k.0) (same x))
  | inr r ↦ elim (cases_lt y x) [
    | inl l ↦ absurd (differ (has (y ∷ ys) y) (has (x ∷ xs) y) (has_first y ys) (not_before y x xs l h.0) (sym (same y)))
    | inr s ↦ (let e : x ≡ y = omega arith in
        ap₂ (λ m l. m ∷ l) e (same_rising xs ys h.1 k.1 (λ n. elim (cases_lt x n) [
          | inl l ↦ sym (has_after x n xs l) ∙ same n ∙ has_after y n ys (omega arith)
          | inr l ↦ not_upto x n xs (omega arith) h.0 ∙ sym (not_upto y n ys (omega arith) k.0)
        ])))
  ]
]
  where
    not_upto : (x n : ℕ) (xs : List ℕ) → n ≤ x → Below x xs → has xs n ≡ false
    not_upto x n xs l b = elim (cases_lt n x) [
      | inl m ↦ not_below n xs (lower n x xs m b)
      | inr m ↦ (let e : n ≡ x = omega arith in ap (has xs) e ∙ not_below x xs b)
    ]

no_longer_rising : (xs ys : List ℕ) → Rising xs → Rising ys → ((k : ℕ) → has xs k ≡ true → has ys k ≡ true) → length xs ≤ length ys
no_longer_rising [] ys h k all = omega arith
no_longer_rising (x ∷ xs) [] h k all = absurd (differ true false refl refl (sym (all x (has_first x xs))))
no_longer_rising (x ∷ xs) (y ∷ ys) h k all = elim (cases_lt x y) [
  | inl l ↦ absurd (differ (has (y ∷ ys) x) false (all x (has_first x xs)) refl (not_before x y ys l k.0))
  | inr r ↦ elim (cases_lt y x) [
    | inl l ↦ (let rest = no_longer_rising (x ∷ xs) ys h k.1 (λ n m.
        let up : y < n = above_of y n (x ∷ xs) (l, lower y x xs l h.0) m in
        sym (has_after y n ys up) ∙ all n m) in omega (arith, rest))
    | inr s ↦ (let rest = no_longer_rising xs ys h.1 k.1 (λ n m.
        let up : x < n = above_of x n xs h.0 m in
        sym (has_after y n ys (omega arith)) ∙ all n (has_after x n xs up ∙ m)) in omega (arith, rest))
  ]
]

-- FOR CALLERS

-- a rising list rises with a number put in
pub with_rises : (n : ℕ) (ns : List ℕ) → IsStrictlyIncreasing ns → IsStrictlyIncreasing (with_number n ns)
with_rises n ns h = increasing_from (with_number n ns) (rising_with n ns (rising_from ns h))

-- the number is there then, and besides it just what was there
pub with_members : (n k : ℕ) (ns : List ℕ) → list_any (λ m. m == k) (with_number n ns) ≡ (k == n || list_any (λ m. m == k) ns)
with_members n k [] = ap (λ l. has l k) (with_none n) ∙ ap (λ b. b || false) (eq_turned n k)
with_members n k (m ∷ ms) = with_cases n m ms (λ l. has l k ≡ (k == n || has (m ∷ ms) k))
    (λ l. ap (λ b. b || has (m ∷ ms) k) (eq_turned n k))
    (λ e. or_twice (m == k) (has ms k) ∙ ap (λ b. b || has (m ∷ ms) k) (eq_turned m k ∙ ap (λ j. k == j) (sym e)))
    (λ l. ap (λ b. m == k || b) (with_members n k ms) ∙ or_swap (m == k) (k == n) (has ms k))

-- a number that is not there makes the list longer by one
pub with_longer : (n : ℕ) (ns : List ℕ) → list_any (λ m. m == n) ns ≡ false → length (with_number n ns) ≡ length ns + 1
with_longer n [] h = ap length (with_none n)
with_longer n (m ∷ ms) h = with_cases n m ms (λ l. length l ≡ length (m ∷ ms) + 1)
    (λ l. omega arith)
    (λ e. absurd (differ (has (m ∷ ms) n) false (ap (λ j. has (m ∷ ms) j) e ∙ has_first m ms) refl h))
    (λ l. omega (arith, with_longer n ms (sym (has_after m n ms l) ∙ h)))

-- a number that is there changes nothing
pub with_there : (n : ℕ) (ns : List ℕ) → IsStrictlyIncreasing ns → list_any (λ m. m == n) ns ≡ true → with_number n ns ≡ ns
with_there n ns inc h = kept n ns (rising_from ns inc) h
  where
    kept : (n : ℕ) (ns : List ℕ) → Rising ns → has ns n ≡ true → with_number n ns ≡ ns
    kept n [] r h = absurd (differ true false refl refl (sym h))
    kept n (m ∷ ms) r h = with_cases n m ms (λ l. l ≡ m ∷ ms)
        (λ l. absurd (differ (has (m ∷ ms) n) false h refl (not_before n m ms l r.0)))
        (λ e. refl)
        (λ l. ap (λ l. m ∷ l) (kept n ms r.1 (sym (has_after m n ms l) ∙ h)))

-- a rising list whose numbers are all in another is no longer
pub no_longer : (xs ys : List ℕ) → IsStrictlyIncreasing xs → IsStrictlyIncreasing ys
    → ((k : ℕ) → list_any (λ m. m == k) xs ≡ true → list_any (λ m. m == k) ys ≡ true) → length xs ≤ length ys
no_longer xs ys h k all = no_longer_rising xs ys (rising_from xs h) (rising_from ys k) all

-- rising lists with the same members are one
pub same_members : (xs ys : List ℕ) → IsStrictlyIncreasing xs → IsStrictlyIncreasing ys
    → ((k : ℕ) → list_any (λ m. m == k) xs ≡ list_any (λ m. m == k) ys) → xs ≡ ys
same_members xs ys h k same = same_rising xs ys (rising_from xs h) (rising_from ys k) same
