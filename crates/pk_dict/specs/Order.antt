-- The order of terms, as the scan uses it.
use Rattle.std.specs.Prelude.{◌≡◌, ℕ, List, [], ◌∷◌, Bool, true, false, ◌&&◌, ◌||◌, nat_lt, nat_eq}
use Rattle.pk_dict.specs.Dictionary.{Item}

-- whether one term is less than another, by their bytes
abbrev pub less : List ℕ → List ℕ → Bool
less xs [] = false
less [] (y ∷ ys) = true
less (x ∷ xs) (y ∷ ys) = nat_lt x y || (nat_eq x y && less xs ys)

-- each term is less than the next, the first greater than the one before
abbrev pub Rising : List ℕ → List Item → Type 0
Rising before [] = Unit {0}
Rising before (e ∷ es) = (less before e.term ≡ true) × Rising e.term es

-- terms that rise: the first may be empty
abbrev pub RisingTerms : List Item → Type 0
RisingTerms [] = Unit {0}
RisingTerms (e ∷ es) = Rising e.term es
