-- Terms that are less by std's order are less by the scan's.
use Rattle.std.proofs.Common.{◌≡◌, ◌<◌, ◌∙◌, ℕ, List, [], ◌∷◌, true, sym, ap, refl, arith, inl, inr}
use Rattle.std.specs.List.Sorted.{IsStrictlySortedBy}
use Rattle.std.specs.Cmp.Lexicographic.{slice_cmp}
use Rattle.std.specs.Ordering.{nat_cmp, ordering_then}
use Rattle.std.specs.declared.cmp.Ordering.{Ordering}
use Rattle.std.specs.declared.cmp.Ordering.TheVariants.{Less, Equal, Greater}
use Rattle.std.proofs.lemmas.Bool.{cases_order, eq-eqb, ne_eqb, lt-ltb, le-ltb}
use Rattle.pk_dict.specs.Dictionary.{Item, terms_of, IsRising}
use Rattle.pk_dict.specs.Order.{less, Rising, RisingTerms}
use Rattle.pk_dict.proofs.Order.{less_same, less_by}

pub cmp_lt : (x y : ℕ) → x < y → nat_cmp x y ≡ Less
cmp_lt x y h = rw (lt-ltb x y h) refl

pub cmp_eq : (x y : ℕ) → x ≡ y → nat_cmp x y ≡ Equal
cmp_eq x y h = rw (le-ltb x y (omega arith), eq-eqb x y h) refl

cmp_gt : (x y : ℕ) → y < x → nat_cmp x y ≡ Greater
cmp_gt x y h = rw (le-ltb x y (omega arith), ne_eqb x y (λ (e : x ≡ y). omega arith)) refl

pub less_of : (xs ys : List ℕ) → slice_cmp nat_cmp xs ys ≡ Less → less xs ys ≡ true
less_of [] [] h = absurd cc
less_of [] (y ∷ ys) h = refl
less_of (x ∷ xs) [] h = absurd cc
less_of (x ∷ xs) (y ∷ ys) h =
    elim (cases_order x y) [
      | inl e ↦ less_same x y xs ys e ∙ less_of xs ys (sym (ap (λ (o : Ordering). ordering_then o (slice_cmp nat_cmp xs ys)) (cmp_eq x y e)) ∙ h)
      | inr o ↦ elim o [
        | inl l ↦ less_by x y xs ys l
        | inr l ↦ absurd (let k : Greater ≡ Less = sym (ap (λ (o : Ordering). ordering_then o (slice_cmp nat_cmp xs ys)) (cmp_gt x y l)) ∙ h in cc)
      ]
    ]

rising_from : (e : Item) (es : List Item) → IsStrictlySortedBy (slice_cmp nat_cmp) (terms_of (e ∷ es)) → Rising e.term es
unfolding IsStrictlySortedBy
rising_from e [] h = tt
rising_from e (f ∷ es) h = (less_of e.term f.term h.0.0, rising_from f es h.1)

pub rises : (es : List Item) → IsRising es → RisingTerms es
rises [] h = tt
rises (e ∷ es) h = rising_from e es h
