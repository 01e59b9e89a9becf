-- Sets of numbers, as rising lists.
use Rattle.std.specs.Prelude.{ℕ, Bool, not, List, [], ◌∷◌, nat_eq, nat_lt, if◌then◌else◌, filter}
use Rattle.std.specs.List.{list_any}

-- whether x is one of ys
abbrev pub has : List ℕ → ℕ → Bool
has ys x = list_any (λ y. nat_eq x y) ys

-- the numbers that are in both lists
abbrev pub intersection : List ℕ → List ℕ → List ℕ
intersection xs ys = filter (has ys) xs

-- the numbers of the first list that are not in the second
abbrev pub difference : List ℕ → List ℕ → List ℕ
difference xs ys = filter (λ x. not (has ys x)) xs

-- a rising list with x put in, where it is not there already
abbrev pub with_number : ℕ → List ℕ → List ℕ
with_number x [] = x ∷ []
with_number x (y ∷ ys) =
    if nat_lt x y then x ∷ y ∷ ys
    else (if nat_eq x y then y ∷ ys else y ∷ with_number x ys)

-- the numbers that are in at least one of the lists: the second with each number of the first
abbrev pub union : List ℕ → List ℕ → List ℕ
union [] ys = ys
union (x ∷ xs) ys = with_number x (union xs ys)
