-- Whether no two of a list meet: it is the same in each order, and neighbours tell it of a sorted list.
use Rattle.std.proofs.Common.{◌≡◌, inl, inr, ℕ, ◌+◌, ◌<◌, ◌≤◌, ◌||◌, ◌∷◌, [], Bool, true, false, not, List, get_or, map, refl, sym, ◌∙◌, ap, arith, eqb, leb, ltb}
use Rattle.std.specs.Prelude.{All, ⊤}
use Rattle.std.specs.List.{AllByRecursion, IsAllAdjacentAnswer, IsDistinct, list_any}
use Rattle.std.specs.List.Sorted.{IsNonDecreasingBy, IsPermutation}
use Rattle.std.proofs.lemmas.Bool.{and_from, and_parts, cases_Bool, not-true, not_from_false}
use Rattle.std.proofs.lemmas.Bool.Decides.{nat_tests}
use Rattle.std.proofs.lemmas.List.Sorted.{All-permutation, IsPermutation-sym}
use Rattle.std.proofs.lemmas.Map.Keys.{IsDistinct-IsPermutation, IsDistinct-from_apart, apart_from_distinct}
use Rattle.pk_disk.specs.declared.units.Extent.{Extent}
use Rattle.pk_disk.specs.Units.{apart, end_of, overlap}
use Rattle.pk_disk.proofs.Ranges.{or_both, or_left, or_right}
use Rattle.pk_manifest.specs.declared.manifest.Part.{Part}
use Rattle.pk_manifest.specs.Sound.{is_extent, same_segment}

-- IN EACH ORDER. No two meet exactly if the list is distinct, as std has it.
none_of : {X : Type 0} (p : X → Bool) (xs : List X) → list_any p xs ≡ false → AllByRecursion (λ x. p x ≡ false) xs
none_of p [] none = tt
none_of p (x ∷ xs) none = (or_left (p x) (list_any p xs) none, none_of p xs (or_right (p x) (list_any p xs) none))

none_from : {X : Type 0} (p : X → Bool) (xs : List X) → AllByRecursion (λ x. p x ≡ false) xs → list_any p xs ≡ false
none_from p [] each = refl
none_from p (x ∷ xs) each = or_both (p x) (list_any p xs) each.0 (none_from p xs each.1)

distinct_when_apart : {X : Type 0} (meets : X → X → Bool) (xs : List X) → apart meets xs ≡ true → IsDistinct meets xs
unfolding IsDistinct
distinct_when_apart meets [] is = tt
distinct_when_apart meets (x ∷ xs) is =
    let parts = and_parts (not (list_any (meets x) xs)) (apart meets xs) is in
    (none_of (meets x) xs (not-true (list_any (meets x) xs) parts.0), distinct_when_apart meets xs parts.1)

apart_when_distinct : {X : Type 0} (meets : X → X → Bool) (xs : List X) → IsDistinct meets xs → apart meets xs ≡ true
unfolding IsDistinct
apart_when_distinct meets [] is = refl
apart_when_distinct meets (x ∷ xs) is =
    and_from (not (list_any (meets x) xs)) (apart meets xs) (not_from_false (list_any (meets x) xs) (none_from (meets x) xs is.0)) (apart_when_distinct meets xs is.1)

same_tests : (a b : Bool) → (a ≡ true → b ≡ true) → (b ≡ true → a ≡ true) → a ≡ b
same_tests true b there back = sym (there refl)
same_tests false true there back = back refl
same_tests false false there back = refl

apart_permuted : {X : Type 0} (meets : X → X → Bool) (flips : (x y : X) → meets x y ≡ meets y x) (xs ys : List X) → IsPermutation xs ys → apart meets ys ≡ apart meets xs
apart_permuted meets flips xs ys permuted = same_tests (apart meets ys) (apart meets xs)
    (λ is. apart_when_distinct meets xs (IsDistinct-IsPermutation meets flips ys xs (IsPermutation-sym xs ys permuted) (distinct_when_apart meets ys is)))
    (λ is. apart_when_distinct meets ys (IsDistinct-IsPermutation meets flips xs ys permuted (distinct_when_apart meets xs is)))

-- BY NEIGHBOURS, in a list that rises by n: what is before another meets none from that on, and what
-- isn't before its neighbour meets it.
module _ {X : Type 0} (n : X → ℕ) (meets before : X → X → Bool) (P : X → Type 0)
    (clear : (x y z : X) → n y ≤ n z → before x y ≡ true → meets x z ≡ false)
    (clash : (x y : X) → P y → n x ≤ n y → before x y ≡ false → meets x y ≡ true) where
  apart_by_neighbours : (ys : List X) → All P ys → IsNonDecreasingBy n ys → (r : Bool) → IsAllAdjacentAnswer (λ x y b. b ≡ before x y) ys r → r ≡ apart meets ys
  apart_by_neighbours ys all rises true each =
      sym (apart_when_distinct meets ys (IsDistinct-from_apart meets ys (λ i j d less lt.
      clear (get_or ys i d) (get_or ys (i + 1) d) (get_or ys j d) (rises (i + 1) j d (omega (arith, less)) lt) (sym (each i d (omega (arith, less, lt)))))))
  apart_by_neighbours [] all rises false some = absurd (omega (arith, some.1))
  apart_by_neighbours (y ∷ ys) all rises false some = elim (cases_Bool (apart meets (y ∷ ys))) [
    | inl is ↦
        let k = some.0 in
        let met : meets (get_or (y ∷ ys) k y) (get_or (y ∷ ys) (k + 1) y) ≡ true =
        clash (get_or (y ∷ ys) k y) (get_or (y ∷ ys) (k + 1) y) (all (k + 1) y some.1) (rises k (k + 1) y (omega arith) some.1) (sym (some.2 y)) in
        let unmet : meets (get_or (y ∷ ys) k y) (get_or (y ∷ ys) (k + 1) y) ≡ false =
        apart_from_distinct meets (y ∷ ys) k (k + 1) y (distinct_when_apart meets (y ∷ ys) is) (omega arith) some.1 in
        cc
    | inr not_so ↦ sym not_so
  ]

-- EXTENTS, by their first units. Each has a unit.
pub overlap_flips : (e f : Extent) → overlap e f ≡ overlap f e
overlap_flips e f = grind (arith, nat_tests)

ends_before : (e f g : Extent) → f.first ≤ g.first → leb (end_of e) f.first ≡ true → overlap e g ≡ false
ends_before e f g low is = grind (arith, nat_tests)

reaches : (e f : Extent) → 0 < f.units → e.first ≤ f.first → leb (end_of e) f.first ≡ false → overlap e f ≡ true
reaches e f some low behind = grind (arith, nat_tests)

pub has_unit : (units least : ℕ) (e : Extent) → is_extent units least e ≡ true → 0 < e.units
has_unit units least e is = grind (arith, nat_tests)

pub extents_apart : (extents sorted : List Extent) → IsPermutation extents sorted → IsNonDecreasingBy (λ (e : Extent). e.first) sorted → All (λ (e : Extent). 0 < e.units) extents
    → (r : Bool) → IsAllAdjacentAnswer (λ (e f : Extent) (b : Bool). b ≡ leb (end_of e) f.first) sorted r → r ≡ apart overlap extents
extents_apart extents sorted permuted rises all r answer =
    apart_by_neighbours (λ (e : Extent). e.first) overlap (λ (e f : Extent). leb (end_of e) f.first) (λ (e : Extent). 0 < e.units) ends_before reaches sorted (All-permutation (λ (e : Extent). 0 < e.units) extents sorted permuted all) rises r answer
    ∙ apart_permuted overlap overlap_flips extents sorted permuted

-- IDS, by their values
eqb_flips : (a b : ℕ) → eqb a b ≡ eqb b a
eqb_flips a b = grind (arith, nat_tests)

below : (a b c : ℕ) → b ≤ c → ltb a b ≡ true → eqb a c ≡ false
below a b c low is = grind (arith, nat_tests)

equal : (a b : ℕ) → ⊤ → a ≤ b → ltb a b ≡ false → eqb a b ≡ true
equal a b _ low above = grind (arith, nat_tests)

list_any_ids : (p : Part) (ps : List Part) → list_any (eqb p.segment) (map (λ (q : Part). q.segment) ps) ≡ list_any (same_segment p) ps
list_any_ids p [] = refl
list_any_ids p (q ∷ ps) = ap (λ (t : Bool). eqb p.segment q.segment || t) (list_any_ids p ps)

apart_ids : (ps : List Part) → apart eqb (map (λ (p : Part). p.segment) ps) ≡ apart same_segment ps
apart_ids [] = refl
apart_ids (p ∷ ps) = rw (list_any_ids p ps, apart_ids ps) refl

pub parts_distinct : (ps : List Part) (sorted : List ℕ) → IsPermutation (map (λ (p : Part). p.segment) ps) sorted → IsNonDecreasingBy (λ (a : ℕ). a) sorted
    → (r : Bool) → IsAllAdjacentAnswer (λ (a b : ℕ) (t : Bool). t ≡ ltb a b) sorted r → r ≡ apart same_segment ps
parts_distinct ps sorted permuted rises r answer =
    apart_by_neighbours (λ (a : ℕ). a) eqb ltb (λ (a : ℕ). ⊤) below equal sorted (λ k d lt. tt) rises r answer
    ∙ apart_permuted eqb eqb_flips (map (λ (p : Part). p.segment) ps) sorted permuted
    ∙ apart_ids ps
