-- Parts of rising lists.
use Rattle.std.proofs.Common.{rules, ◌≡◌, ℕ, suc, ◌<◌, ◌≤◌, ◌+◌, ◌-◌, List, [], ◌∷◌, ◌++◌, length, take, drop, slice_index, slice_set, get_or, Bool, true, false, cond, ◌||◌, nat_eq, min, arith, refl, sym, ap, ap₂, subst, ◌∙◌, ◌⊎◌, inl, inr, drop-cons, take-add, append_assoc, length-append}
use Rattle.std.proofs.Math.Seq.{drop-append_seam, take-append-add}
use Rattle.std.specs.List.Sorted.{IsStrictlyIncreasing}
use Rattle.std.specs.Simd.Lanes.{Each1, chunk}
use Rattle.std.proofs.lemmas.List.{places, drop_all, drop-drop, take-append-le, length-take, take-take}
use Rattle.std.proofs.lemmas.List.Edits.{take-paste}
use Rattle.std.specs.List.{copy_within}
use Rattle.std.proofs.lemmas.List.Kept.{AllPairs-from_increasing}
use Rattle.std.proofs.lemmas.List.Sums.{length-filter, count_by-le-length}
use Rattle.std.proofs.lemmas.Bool.{cases_lt}
use Rattle.std.proofs.lemmas.Bool.Decides.{nat_tests}
use Rattle.std.proofs.lemmas.Grind.{common_steps}
use Rattle.std.proofs.lemmas.Simd.{Each1-from_get_or, get_or-chunk, length-chunk, chunk-drop}
use Rattle.pk_sets.specs.Sets.{has, intersection}
use Rattle.pk_sets.proofs.IntersectionLemmas.{Before, Rising, step_left, step_right, step_equal, intersection_none, size_right, eq_false, eq_false_turned, right_alone, none_above}
use Rattle.std.proofs.lemmas.List.Folds.{list_any-append}

pub at_most : (xs : List ℕ) → IsStrictlyIncreasing xs → (i j : ℕ) → i ≤ j → j < length xs → slice_index xs i ≤ slice_index xs j
at_most xs inc i j h k = elim (cases_lt i j) [
  | inl l ↦ (let b : slice_index xs i < slice_index xs j = AllPairs-from_increasing xs inc i j 0 l k in omega arith)
  | inr r ↦ (let e : i ≡ j = omega arith in rw e (omega arith))
]

pub below : (xs : List ℕ) → IsStrictlyIncreasing xs → (i j : ℕ) → i < j → j < length xs → slice_index xs i < slice_index xs j
below xs inc i j h k = AllPairs-from_increasing xs inc i j 0 h k

get_or_drop : (m k : ℕ) (xs : List ℕ) → get_or (drop m xs) k 0 ≡ get_or xs (m + k) 0
get_or_drop m k xs = search (rules, places)

length_drop : (m : ℕ) (xs : List ℕ) → length (drop m xs) ≡ length xs - m
length_drop m xs = search (rules, places)

pub each_drop : (P : ℕ → Type 0) (m : ℕ) (xs : List ℕ) → ((k : ℕ) → m ≤ k → k < length xs → P (slice_index xs k)) → Each1 P (drop m xs)
each_drop P m xs f =
    Each1-from_get_or P (drop m xs) 0 (λ k h.
    subst P (sym (get_or_drop m k xs)) (f (m + k) (omega arith) (omega (arith, length_drop m xs))))

pub each_chunk : (P : ℕ → Type 0) (i n : ℕ) (xs : List ℕ) → i + n ≤ length xs → ((k : ℕ) → i ≤ k → k < i + n → P (slice_index xs k)) → Each1 P (chunk i n xs)
each_chunk P i n xs room f =
    Each1-from_get_or P (chunk i n xs) 0 (λ k h.
    let inside : k < n = omega (arith, length-chunk i n xs room) in
    subst P (sym (get_or-chunk i n xs k 0 inside)) (f (i + k) (omega arith) (omega arith)))

pub rising_of : (xs : List ℕ) → ((i j : ℕ) → i < j → j < length xs → get_or xs i 0 < get_or xs j 0) → Rising xs
rising_of [] f = tt
rising_of (x ∷ xs) f = (
  Each1-from_get_or (λ y. x < y) xs 0 (λ k h. f 0 (suc k) (omega arith) (omega arith)),
  rising_of xs (λ i j h k. f (suc i) (suc j) (omega arith) (omega arith)),
)

pub rising_all : (xs : List ℕ) → IsStrictlyIncreasing xs → Rising xs
rising_all xs inc = rising_of xs (below xs inc)

pub rising_chunk : (xs : List ℕ) → IsStrictlyIncreasing xs → (i n : ℕ) → i + n ≤ length xs → Rising (chunk i n xs)
rising_chunk xs inc i n room = rising_of (chunk i n xs) (λ p q h k.
    let size = length-chunk i n xs room in
    let first = get_or-chunk i n xs p 0 (omega arith) in
    let second = get_or-chunk i n xs q 0 (omega arith) in
    omega (arith, first, second, below xs inc (i + p) (i + q) (omega arith) (omega arith)))

-- of two rising lists, w numbers at i of a and at j of b
pub record Places (a b : List ℕ) (i j w : ℕ) : Type 0 where
  pub rising_a : IsStrictlyIncreasing a
  pub rising_b : IsStrictlyIncreasing b
  pub some : 0 < w
  pub left : i + w ≤ length a
  pub right : j + w ≤ length b

-- one number of each is there
pub places_one : (a b : List ℕ) (i j : ℕ) → IsStrictlyIncreasing a → IsStrictlyIncreasing b → i < length a → j < length b → Places a b i j 1
places_one a b i j rising_a rising_b in_a in_b = record {
  rising_a = rising_a;
  rising_b = rising_b;
  some = omega arith;
  left = omega (arith, in_a);
  right = omega (arith, in_b);
}

-- the part of a ends before b goes on
apart_left : (a b : List ℕ) (i j w : ℕ) → Places a b i j w → slice_index a (i + w - 1) ≤ slice_index b (j + w - 1) → Before (chunk i w a) (drop (j + w) b)
apart_left a b i j w p h =
    each_chunk (λ x. Each1 (λ y. x < y) (drop (j + w) b)) i w a p.left (λ k l m.
    each_drop (λ y. slice_index a k < y) (j + w) b (λ q r s.
    omega (arith, at_most a p.rising_a k (i + w - 1) (omega arith) (omega (arith, p.left, p.some)), below b p.rising_b (j + w - 1) q (omega (arith, p.some)) s)))

apart_self : (b : List ℕ) → IsStrictlyIncreasing b → (j w : ℕ) → j + w ≤ length b → Before (chunk j w b) (drop (j + w) b)
apart_self b inc j w room =
    each_chunk (λ x. Each1 (λ y. x < y) (drop (j + w) b)) j w b room (λ k l m.
    each_drop (λ y. slice_index b k < y) (j + w) b (λ q r s. below b inc k q (omega arith) s))

-- a goes on after the part of b
past_right : (a b : List ℕ) (i j w : ℕ) → Places a b i j w → slice_index b (j + w - 1) ≤ slice_index a (i + w - 1)
    → Each1 (λ x. Each1 (λ y. y < x) (chunk j w b)) (drop (i + w) a)
past_right a b i j w p h =
    each_drop (λ x. Each1 (λ y. y < x) (chunk j w b)) (i + w) a (λ q r s.
    each_chunk (λ y. y < slice_index a q) j w b p.right (λ k l m.
    omega (arith, at_most b p.rising_b k (j + w - 1) (omega arith) (omega (arith, p.right, p.some)), below a p.rising_a (i + w - 1) q (omega (arith, p.some)) s)))

pub merge_left : (a b : List ℕ) (i j w : ℕ) → Places a b i j w → slice_index a (i + w - 1) ≤ slice_index b (j + w - 1)
    → intersection (drop i a) (drop j b) ≡ intersection (chunk i w a) (chunk j w b) ++ intersection (drop (i + w) a) (drop j b)
merge_left a b i j w p h =
    ap₂ intersection (chunk-drop i w a) (chunk-drop j w b)
    ∙ step_left (chunk i w a) (drop (i + w) a) (chunk j w b) (drop (j + w) b) (apart_left a b i j w p h)
    ∙ ap (λ l. intersection (chunk i w a) (chunk j w b) ++ intersection (drop (i + w) a) l) (sym (chunk-drop j w b))

pub merge_right : (a b : List ℕ) (i j w : ℕ) → Places a b i j w → slice_index b (j + w - 1) ≤ slice_index a (i + w - 1)
    → intersection (drop i a) (drop j b) ≡ intersection (chunk i w a) (chunk j w b) ++ intersection (drop i a) (drop (j + w) b)
merge_right a b i j w p h =
    ap₂ intersection (chunk-drop i w a) (chunk-drop j w b)
    ∙ step_right (chunk i w a) (drop (i + w) a) (chunk j w b) (drop (j + w) b) (rising_chunk a p.rising_a i w p.left)
    (apart_self b p.rising_b j w p.right) (past_right a b i j w p h)
    ∙ ap (λ l. intersection (chunk i w a) (chunk j w b) ++ intersection l (drop (j + w) b)) (sym (chunk-drop i w a))

pub merge_equal : (a b : List ℕ) (i j w : ℕ) → Places a b i j w → slice_index a (i + w - 1) ≡ slice_index b (j + w - 1)
    → intersection (drop i a) (drop j b) ≡ intersection (chunk i w a) (chunk j w b) ++ intersection (drop (i + w) a) (drop (j + w) b)
merge_equal a b i j w p h =
    ap₂ intersection (chunk-drop i w a) (chunk-drop j w b)
    ∙ step_equal (chunk i w a) (drop (i + w) a) (chunk j w b) (drop (j + w) b) (apart_left a b i j w p (omega arith)) (past_right a b i j w p (omega arith))

pub one_chunk : (i : ℕ) (xs : List ℕ) → i < length xs → chunk i 1 xs ≡ slice_index xs i ∷ []
one_chunk i xs h = rw (drop-cons xs i 0) refl

-- the n numbers after those from one place to another
pub chunk_more : (from at n : ℕ) (xs : List ℕ) → from ≤ at → chunk from (at - from) xs ++ chunk at n xs ≡ chunk from (at + n - from) xs
chunk_more from at n xs h =
    let size : at + n - from ≡ (at - from) + n = omega arith in
    let place : from + (at - from) ≡ at = omega arith in
    rw size (sym (take-add (at - from) n (drop from xs)
    ∙ ap (λ l. chunk from (at - from) xs ++ take n l) (drop-drop (at - from) from xs ∙ ap (λ m. drop m xs) place)))

-- a run that is written in two parts
pub run_on : (n from at end to more m : ℕ) (xs out mid start : List ℕ) → from ≤ at → at ≤ end → m ≡ more
    → take more out ≡ take to mid ++ chunk at (end - at) xs → take to mid ≡ take n start ++ chunk from (at - from) xs
    → take m out ≡ take n start ++ chunk from (end - from) xs
run_on n from at end to more m xs out mid start lower upper e second first =
    let place : at + (end - at) ≡ end = omega arith in
    ap (λ k. take k out) e ∙ second ∙ ap (λ l. l ++ chunk at (end - at) xs) first
    ∙ append_assoc (take n start) (chunk from (at - from) xs) (chunk at (end - at) xs)
    ∙ ap (λ l. take n start ++ l) (chunk_more from at (end - at) xs lower ∙ ap (λ k. chunk from (k - from) xs) place)

-- of w numbers that were written, the first k
pub part_of_run : (to w k at : ℕ) (xs out mid : List ℕ) → k ≤ w → to ≤ length mid
    → take (to + w) out ≡ take to mid ++ chunk at w xs → take (to + k) out ≡ take to mid ++ chunk at k xs
part_of_run to w k at xs out mid less room e =
    let size : to + k ≡ length (take to mid) + k = omega (arith, length-take to mid) in
    sym (take-take (to + k) (to + w) out (omega arith)) ∙ ap (take (to + k)) e
    ∙ ap (λ m. take m (take to mid ++ chunk at w xs)) size
    ∙ take-append-add (take to mid) (chunk at w xs) k
    ∙ ap (λ l. take to mid ++ l) (take-take k w (drop at xs) less)

-- what is left of two parts when the second has been moved down to the first
pub moved_down : (s n m : ℕ) (low high : List ℕ) → length low ≡ s → n ≤ s → m ≤ length high
    → take (n + m) (copy_within (low ++ high) s (s + m) n) ≡ take n low ++ take m high
moved_down s n m low high e h k =
    let size : s + m - s ≡ m = omega arith in
    let back : drop s (low ++ high) ≡ high = ap (λ l. drop l (low ++ high)) (sym e) ∙ drop-append_seam low high in
    rw (size, back) (take-paste (low ++ high) n high m (omega (arith, length-append low high)) k
    ∙ ap (λ l. l ++ take m high) (take-append-le n low high (omega (arith, e))))

pub one_less : (a b : List ℕ) (i j : ℕ) → Places a b i j 1 → slice_index a i < slice_index b j
    → intersection (drop i a) (drop j b) ≡ intersection (drop (i + 1) a) (drop j b)
one_less a b i j p h =
    let last_a : i + 1 - 1 ≡ i = omega arith in
    let last_b : j + 1 - 1 ≡ j = omega arith in
    let met : intersection (slice_index a i ∷ []) (slice_index b j ∷ []) ≡ [] = rw (eq_false (slice_index a i) (slice_index b j) h) refl in
    merge_left a b i j 1 p (rw (last_a, last_b) (omega arith))
    ∙ ap (λ l. l ++ intersection (drop (i + 1) a) (drop j b))
    (ap₂ intersection (one_chunk i a (omega (arith, p.left))) (one_chunk j b (omega (arith, p.right))) ∙ met)

pub one_more : (a b : List ℕ) (i j : ℕ) → Places a b i j 1 → slice_index b j < slice_index a i
    → intersection (drop i a) (drop j b) ≡ intersection (drop i a) (drop (j + 1) b)
one_more a b i j p h =
    let last_a : i + 1 - 1 ≡ i = omega arith in
    let last_b : j + 1 - 1 ≡ j = omega arith in
    let met : intersection (slice_index a i ∷ []) (slice_index b j ∷ []) ≡ [] = rw (eq_false_turned (slice_index a i) (slice_index b j) h) refl in
    merge_right a b i j 1 p (rw (last_a, last_b) (omega arith))
    ∙ ap (λ l. l ++ intersection (drop i a) (drop (j + 1) b))
    (ap₂ intersection (one_chunk i a (omega (arith, p.left))) (one_chunk j b (omega (arith, p.right))) ∙ met)

pub eq_same : (x y : ℕ) → x ≡ y → nat_eq x y ≡ true
eq_same x y h = grind (arith, nat_tests)

pub one_both : (a b : List ℕ) (i j : ℕ) → Places a b i j 1 → slice_index a i ≡ slice_index b j
    → intersection (drop i a) (drop j b) ≡ (slice_index a i ∷ []) ++ intersection (drop (i + 1) a) (drop (j + 1) b)
one_both a b i j p h =
    let last_a : i + 1 - 1 ≡ i = omega arith in
    let last_b : j + 1 - 1 ≡ j = omega arith in
    let met : intersection (slice_index a i ∷ []) (slice_index b j ∷ []) ≡ slice_index a i ∷ [] = rw (eq_same (slice_index a i) (slice_index b j) h) refl in
    merge_equal a b i j 1 p (rw (last_a, last_b) h)
    ∙ ap (λ l. l ++ intersection (drop (i + 1) a) (drop (j + 1) b))
    (ap₂ intersection (one_chunk i a (omega (arith, p.left))) (one_chunk j b (omega (arith, p.right))) ∙ met)

pub size_intersection : (a b : List ℕ) → IsStrictlyIncreasing a → IsStrictlyIncreasing b → length (intersection a b) ≤ min (length a) (length b)
size_intersection a b inc_a inc_b =
    omega (arith, length-filter (has b) a, count_by-le-length (has b) a, size_right a b (rising_all a inc_a) (rising_all b inc_b))

-- what is left where one list is at its end
pub none_left : (a b : List ℕ) (j : ℕ) → length b ≤ j → intersection a (drop j b) ≡ []
none_left a b j h =
    let gone : drop j b ≡ [] = drop_all j b h in
    ap (intersection a) gone ∙ intersection_none a

pub stored_one : (n : ℕ) (out : List ℕ) (x : ℕ) → n < length out → take (n + 1) (slice_set out n x) ≡ take n out ++ (x ∷ [])
stored_one n out x h = grind (arith, common_steps)

-- how far each side goes on, after four against four
abbrev pub Goes : ℕ → ℕ → ℕ → Type 0
Goes x y d = ((x ≤ y) × (d ≡ 4)) ⊎ ((y < x) × (d ≡ 0))

pub goes_at_most : (x y d : ℕ) → Goes x y d → d ≤ 4
goes_at_most x y d (inl h) = omega (arith, h.1)
goes_at_most x y d (inr h) = omega (arith, h.1)

pub fours : (a b : List ℕ) (i j di dj : ℕ) → Places a b i j 4
    → Goes (slice_index a (i + 3)) (slice_index b (j + 3)) di → Goes (slice_index b (j + 3)) (slice_index a (i + 3)) dj
    → intersection (drop i a) (drop j b) ≡ intersection (chunk i 4 a) (chunk j 4 b) ++ intersection (drop (i + di) a) (drop (j + dj) b)
fours a b i j di dj p (inl h) (inl k) =
    let last_a : i + 4 - 1 ≡ i + 3 = omega arith in
    let last_b : j + 4 - 1 ≡ j + 3 = omega arith in
    let same : slice_index a (i + 3) ≡ slice_index b (j + 3) = omega (arith, h.0, k.0) in
    rw (h.1, k.1) (merge_equal a b i j 4 p (rw (last_a, last_b) same))
fours a b i j di dj p (inl h) (inr k) =
    let last_a : i + 4 - 1 ≡ i + 3 = omega arith in
    let last_b : j + 4 - 1 ≡ j + 3 = omega arith in
    let stay : j + dj ≡ j = omega (arith, k.1) in
    rw (h.1, stay) (merge_left a b i j 4 p (rw (last_a, last_b) (h.0)))
fours a b i j di dj p (inr h) (inl k) =
    let last_a : i + 4 - 1 ≡ i + 3 = omega arith in
    let last_b : j + 4 - 1 ≡ j + 3 = omega arith in
    let stay : i + di ≡ i = omega (arith, h.1) in
    rw (k.1, stay) (merge_right a b i j 4 p (rw (last_a, last_b) (k.0)))
fours a b i j di dj p (inr h) (inr k) = absurd (omega (arith, h.0, k.0))

-- what ends below the next number of a can be left out
pub skip : (a b : List ℕ) → IsStrictlyIncreasing a → IsStrictlyIncreasing b → (i p q : ℕ) → p ≤ q → q ≤ length b
    → (p < q → slice_index b (q - 1) < slice_index a i) → intersection (drop i a) (drop p b) ≡ intersection (drop i a) (drop q b)
skip a b inc_a inc_b i p q h room past =
    let place : p + (q - p) ≡ q = omega arith in
    let apart : Each1 (λ x. Each1 (λ y. y < x) (chunk p (q - p) b)) (drop i a) =
    each_drop (λ x. Each1 (λ y. y < x) (chunk p (q - p) b)) i a (λ k l m.
    each_chunk (λ y. y < slice_index a k) p (q - p) b (omega arith) (λ r s t.
    omega (arith, past (omega arith), at_most b inc_b r (q - 1) (omega arith) (omega arith), at_most a inc_a i k l m))) in
    ap (intersection (drop i a)) (chunk-drop p (q - p) b)
    ∙ right_alone (drop i a) (chunk p (q - p) b) (drop (p + (q - p)) b) apart
    ∙ ap (λ m. intersection (drop i a) (drop m b)) place

cond_front : (b : Bool) (x : ℕ) (l : List ℕ) → cond b (x ∷ l) l ≡ cond b (x ∷ []) [] ++ l
cond_front true x l = refl
cond_front false x l = refl

or_false : (b : Bool) → (b || false) ≡ b
or_false true = refl
or_false false = refl

-- a number that a stretch of w does not end below is in it or nowhere
has_stretch : (b : List ℕ) → IsStrictlyIncreasing b → (s w x : ℕ) → 0 < w → s + w ≤ length b → x ≤ slice_index b (s + w - 1) → has (drop s b) x ≡ has (chunk s w b) x
has_stretch b inc s w x some room h =
    ap (λ l. has l x) (chunk-drop s w b)
    ∙ list_any-append (λ y. nat_eq x y) (chunk s w b) (drop (s + w) b)
    ∙ rw (none_above x (drop (s + w) b) (each_drop (λ y. x < y) (s + w) b (λ k l m. omega (arith, below b inc (s + w - 1) k (omega arith) m))))
    (or_false (has (chunk s w b) x))

pub gallop_step : (a b : List ℕ) → IsStrictlyIncreasing a → IsStrictlyIncreasing b → (i p s w : ℕ) → i < length a → p ≤ s → 0 < w → s + w ≤ length b
    → (p < s → slice_index b (s - 1) < slice_index a i) → slice_index a i ≤ slice_index b (s + w - 1)
    → (hit : Bool) → hit ≡ has (chunk s w b) (slice_index a i)
    → intersection (drop i a) (drop p b) ≡ cond hit (slice_index a i ∷ []) [] ++ intersection (drop (i + 1) a) (drop s b)
gallop_step a b inc_a inc_b i p s w inside h some room past here hit e =
    let one : suc i ≡ i + 1 = omega arith in
    skip a b inc_a inc_b i p s h (omega arith) past
    ∙ ap (λ l. intersection l (drop s b)) (drop-cons a i 0 inside ∙ ap (λ m. slice_index a i ∷ drop m a) one)
    ∙ ap (λ t. cond t (slice_index a i ∷ intersection (drop (i + 1) a) (drop s b)) (intersection (drop (i + 1) a) (drop s b)))
    (has_stretch b inc_b s w (slice_index a i) some room here ∙ sym e)
    ∙ cond_front hit (slice_index a i) (intersection (drop (i + 1) a) (drop s b))

pub rising_drop : (xs : List ℕ) → IsStrictlyIncreasing xs → (i : ℕ) → Rising (drop i xs)
rising_drop xs inc i = rising_of (drop i xs) (λ p q h k.
    let first = get_or_drop i p xs in
    let second = get_or_drop i q xs in
    omega (arith, first, second, length_drop i xs, below xs inc (i + p) (i + q) (omega arith) (omega (arith, length_drop i xs))))
