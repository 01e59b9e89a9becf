-- For crates above: members, order and sizes of intersections, unions and differences.
use Rattle.std.proofs.Common.{◌≡◌, ℕ, zero, suc, ◌<◌, ◌≤◌, ◌+◌, List, [], ◌∷◌, ◌++◌, length, slice_index, take, Bool, true, false, cond, ◌||◌, ◌&&◌, not, nat_eq, nat_lt, add-one, arith, refl, sym, subst, ap, ap₂, ◌∙◌, inl, inr}
use Rattle.std.specs.List.{filter}
use Rattle.std.specs.List.Sorted.{IsStrictlyIncreasing}
use Rattle.std.proofs.lemmas.Bool.{cases_lt}
use Rattle.std.proofs.lemmas.List.Elements.{filter-append}
use Rattle.std.proofs.lemmas.List.Kept.{IsStrictlyIncreasing-filter}
use Rattle.pk_sets.specs.Sets.{has, intersection, union, difference, with_number}
use Rattle.pk_sets.proofs.IntersectionLemmas.{Rising, eq_true, eq_false_turned, none_above}
use Rattle.pk_sets.proofs.PartLemmas.{rising_all, eq_same}
use Rattle.pk_sets.proofs.UnionLemmas.{rising_union, with_front, with_less, with_same, with_past, higher}

-- MEMBERS

and_false : (b c : Bool) → c ≡ false → (b && c) ≡ false
and_false true c e = e
and_false false c e = refl

passing : (p : ℕ → Bool) (n x : ℕ) (b q r : Bool) → nat_eq n x ≡ b → p x ≡ true → r ≡ (q && p n) → (b || r) ≡ ((b || q) && p n)
passing p n x true q r e f h = sym (ap p (eq_true n x e) ∙ f)
passing p n x false q r e f h = h

stopped : (p : ℕ → Bool) (n x : ℕ) (b q r : Bool) → nat_eq n x ≡ b → p x ≡ false → r ≡ (q && p n) → r ≡ ((b || q) && p n)
stopped p n x true q r e f h =
    let none : p n ≡ false = ap p (eq_true n x e) ∙ f in
    h ∙ and_false q (p n) none ∙ sym none
stopped p n x false q r e f h = h

filter_case : (p : ℕ → Bool) (n x : ℕ) (xs rest : List ℕ) (c : Bool) → p x ≡ c → has rest n ≡ (has xs n && p n)
    → has (cond c (x ∷ rest) rest) n ≡ (has (x ∷ xs) n && p n)
filter_case p n x xs rest true e h = passing p n x (nat_eq n x) (has xs n) (has rest n) refl e h
filter_case p n x xs rest false e h = stopped p n x (nat_eq n x) (has xs n) (has rest n) refl e h

-- a filtered list has the numbers that pass
pub has_filter : (p : ℕ → Bool) (xs : List ℕ) (n : ℕ) → has (filter p xs) n ≡ (has xs n && p n)
has_filter p [] n = refl
has_filter p (x ∷ xs) n = filter_case p n x xs (filter p xs) (p x) refl (has_filter p xs n)

pub has_intersection : (xs ys : List ℕ) (n : ℕ) → has (intersection xs ys) n ≡ (has xs n && has ys n)
has_intersection xs ys n = has_filter (has ys) xs n

pub has_difference : (xs ys : List ℕ) (n : ℕ) → has (difference xs ys) n ≡ (has xs n && not (has ys n))
has_difference xs ys n = has_filter (λ x. not (has ys x)) xs n

or_swap : (b c d : Bool) → (b || (c || d)) ≡ (c || (b || d))
or_swap true true d = refl
or_swap true false d = refl
or_swap false true d = refl
or_swap false false d = refl

or_assoc : (b c d : Bool) → ((b || c) || d) ≡ (b || (c || d))
or_assoc true c d = refl
or_assoc false c d = refl

or_twice : (b c : Bool) → (b || c) ≡ (b || (b || c))
or_twice true c = refl
or_twice false c = refl

pub has_with : (x : ℕ) (ys : List ℕ) (n : ℕ) → has (with_number x ys) n ≡ (nat_eq n x || has ys n)
has_with x [] n = refl
has_with x (y ∷ ys) n = elim (cases_lt x y) [
  | inl l ↦ ap (λ l. has l n) (with_less x y ys l)
  | inr r ↦ elim (cases_lt y x) [
    | inl l ↦ ap (λ l. has l n) (with_past x y ys l) ∙ ap (λ b. nat_eq n y || b) (has_with x ys n) ∙ or_swap (nat_eq n y) (nat_eq n x) (has ys n)
    | inr s ↦ (let e : x ≡ y = omega arith in
        ap (λ l. has l n) (with_same x y ys e) ∙ or_twice (nat_eq n y) (has ys n) ∙ ap (λ m. nat_eq n m || has (y ∷ ys) n) (sym e))
  ]
]

pub has_union : (xs ys : List ℕ) (n : ℕ) → has (union xs ys) n ≡ (has xs n || has ys n)
has_union [] ys n = refl
has_union (x ∷ xs) ys n =
    has_with x (union xs ys) n ∙ ap (λ b. nat_eq n x || b) (has_union xs ys n)
    ∙ sym (or_assoc (nat_eq n x) (has xs n) (has ys n))

-- ORDER

-- each number of a rising list is below the next
pub increasing_of : (xs : List ℕ) → Rising xs → IsStrictlyIncreasing xs
increasing_of [] h k l = absurd (omega arith)
increasing_of (x ∷ []) h k l = absurd (omega arith)
increasing_of (x ∷ y ∷ ys) h zero l = h.0.0
increasing_of (x ∷ y ∷ ys) h (suc k) l =
    let e : suc k + 1 ≡ suc (k + 1) = omega arith in
    rw e (increasing_of (y ∷ ys) h.1 k (omega arith))

pub union_rises : (xs ys : List ℕ) → IsStrictlyIncreasing ys → IsStrictlyIncreasing (union xs ys)
union_rises xs ys h = increasing_of (union xs ys) (rising_union xs ys (rising_all ys h))

differ_at : (b c : Bool) → b ≡ true → c ≡ false → b ≡ c → ⊥
differ_at b c e f h = cc

has_first : (x : ℕ) (xs : List ℕ) → has (x ∷ xs) x ≡ true
has_first x xs = rw (eq_same x x refl) refl

below_first : (x y : ℕ) (ys : List ℕ) → x < y → Rising (y ∷ ys) → has (y ∷ ys) x ≡ false
below_first x y ys l h = none_above x (y ∷ ys) (l, higher x y ys (omega arith) h.0)

later : (n x : ℕ) (b p q : Bool) → nat_eq n x ≡ b → (b || p) ≡ (b || q) → (n ≡ x → p ≡ q) → p ≡ q
later n x true p q e h k = k (eq_true n x e)
later n x false p q e h k = h

-- rising lists with the same members are one
pub same_members : (xs ys : List ℕ) → Rising xs → Rising ys → ((n : ℕ) → has xs n ≡ has ys n) → xs ≡ ys
same_members [] [] h k same = refl
same_members [] (y ∷ ys) h k same = absurd (differ_at (has (y ∷ ys) y) false (has_first y ys) refl (sym (same y)))
same_members (x ∷ xs) [] h k same = absurd (differ_at (has (x ∷ xs) x) false (has_first x xs) refl (same x))
same_members (x ∷ xs) (y ∷ ys) h k same = elim (cases_lt x y) [
  | inl l ↦ absurd (differ_at (has (x ∷ xs) x) (has (y ∷ ys) x) (has_first x xs) (below_first x y ys l k) (same x))
  | inr r ↦ elim (cases_lt y x) [
    | inl l ↦ absurd (differ_at (has (y ∷ ys) y) (has (x ∷ xs) y) (has_first y ys) (below_first y x xs l h) (sym (same y)))
    | inr s ↦ (let e : x ≡ y = omega arith in
        ap₂ (λ m l. m ∷ l) e (same_members xs ys h.1 k.1 (λ n.
        later n x (nat_eq n x) (has xs n) (has ys n) refl (same n ∙ ap (λ m. nat_eq n m || has ys n) (sym e))
        (λ f. let g : n ≡ y = f ∙ e in
        ap (has xs) f ∙ none_above x xs h.0 ∙ sym (ap (has ys) g ∙ none_above y ys k.0)))))
  ]
]

or_turned : (b c : Bool) → (b || c) ≡ (c || b)
or_turned true true = refl
or_turned true false = refl
or_turned false true = refl
or_turned false false = refl

-- it does not matter which list is which
pub union_turned : (xs ys : List ℕ) → Rising xs → Rising ys → union xs ys ≡ union ys xs
union_turned xs ys h k = same_members (union xs ys) (union ys xs) (rising_union xs ys k) (rising_union ys xs h) (λ n.
    has_union xs ys n ∙ or_turned (has xs n) (has ys n) ∙ sym (has_union ys xs n))

-- SIZES

with_case : (x y : ℕ) (ys more : List ℕ) (b c : Bool) → length more ≤ length ys + 1
    → length (cond b (x ∷ y ∷ ys) (cond c (y ∷ ys) (y ∷ more))) ≤ length (y ∷ ys) + 1
with_case x y ys more true c h = omega arith
with_case x y ys more false true h = omega arith
with_case x y ys more false false h = omega arith

with_at_most : (x : ℕ) (ys : List ℕ) → length (with_number x ys) ≤ length ys + 1
with_at_most x [] = omega arith
with_at_most x (y ∷ ys) = with_case x y ys (with_number x ys) (nat_lt x y) (nat_eq x y) (with_at_most x ys)

pub union_at_most : (xs ys : List ℕ) → length (union xs ys) ≤ length xs + length ys
union_at_most [] ys = omega arith
union_at_most (x ∷ xs) ys = omega (arith, with_at_most x (union xs ys), union_at_most xs ys)

abbrev pub one_if : Bool → ℕ
one_if b = cond b 1 0

length_case : (x : ℕ) (l : List ℕ) (b : Bool) → length (cond b (x ∷ l) l) ≡ one_if b + length l
length_case x l true = omega arith
length_case x l false = omega arith

filter_parts : (p : ℕ → Bool) (x : ℕ) (ins outs : List ℕ) (b : Bool) (n : ℕ) → length outs + length ins ≡ n
    → length (cond (not b) (x ∷ outs) outs) + length (cond b (x ∷ ins) ins) ≡ suc n
filter_parts p x ins outs true n h = omega arith
filter_parts p x ins outs false n h = omega arith

-- what is met and what is left are all
pub difference_size : (xs ys : List ℕ) → length (difference xs ys) + length (intersection xs ys) ≡ length xs
difference_size [] ys = refl
difference_size (x ∷ xs) ys =
    filter_parts (has ys) x (intersection xs ys) (difference xs ys) (has ys x) (length xs) (difference_size xs ys)

length_with : (x : ℕ) (ys : List ℕ) → Rising ys → length (with_number x ys) + one_if (has ys x) ≡ length ys + 1
length_with x [] h = refl
length_with x (y ∷ ys) h = elim (cases_lt x y) [
  | inl l ↦ (let a = ap length (with_front x (y ∷ ys) (l, higher x y ys (omega arith) h.0)) in
      let n = ap one_if (below_first x y ys l h) in
      omega (arith, a, n))
  | inr r ↦ elim (cases_lt y x) [
    | inl l ↦ (let a = ap length (with_past x y ys l) in
        let n : one_if (has (y ∷ ys) x) ≡ one_if (has ys x) = ap (λ b. one_if (b || has ys x)) (eq_false_turned x y l) in
        omega (arith, a, n, length_with x ys h.1))
    | inr s ↦ (let e : x ≡ y = omega arith in
        let a = ap length (with_same x y ys e) in
        let n : one_if (has (y ∷ ys) x) ≡ 1 = ap (λ b. one_if (b || has ys x)) (eq_same x y e) in
        omega (arith, a, n))
  ]
]

pub union_size : (xs ys : List ℕ) → Rising xs → Rising ys → length (union xs ys) + length (intersection xs ys) ≡ length xs + length ys
union_size [] ys h k = omega arith
union_size (x ∷ xs) ys h k =
    let more = length_with x (union xs ys) (rising_union xs ys k) in
    let once : has (union xs ys) x ≡ has ys x = has_union xs ys x ∙ ap (λ b. b || has ys x) (none_above x xs h.0) in
    let same = ap one_if once in
    let met = length_case x (intersection xs ys) (has ys x) in
    omega (arith, more, same, met, union_size xs ys h.1 k)

-- THE FIRST OF A LIST, and what they have in common with another

pub intersection_rises : (xs ys ns : List ℕ) → IsStrictlyIncreasing xs → ns ≡ intersection xs ys → IsStrictlyIncreasing ns
intersection_rises xs ys ns h e = subst IsStrictlyIncreasing (sym e) (IsStrictlyIncreasing-filter (has ys) xs h)

take_more : (xs : List ℕ) (i x : ℕ) → i < length xs → x ≡ slice_index xs i → take (suc i) xs ≡ take i xs ++ x ∷ []
take_more [] i x lt at = absurd (omega arith)
take_more (y ∷ ys) zero x lt at = ap (λ z. z ∷ []) (sym at)
take_more (y ∷ ys) (suc i) x lt at = ap (λ zs. y ∷ zs) (take_more ys i x (omega arith) at)

-- one number more, which the other has or has not
pub intersection_more : (xs old : List ℕ) (i x : ℕ) (b : Bool) → i < length old → x ≡ slice_index old i → has xs x ≡ b
    → intersection (take (i + 1) old) xs ≡ intersection (take i old) xs ++ cond b (x ∷ []) []
intersection_more xs old i x b lt at e =
    ap (filter (has xs)) (rw add-one (take_more old i x lt at)) ∙ filter-append (has xs) (take i old) (x ∷ [])
    ∙ ap (λ c. filter (has xs) (take i old) ++ cond c (x ∷ []) []) e
