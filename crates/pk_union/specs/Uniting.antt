-- Many lists of numbers united.
use Rattle.std.specs.Prelude.{ℕ, List, [], ◌∷◌, map}
use Rattle.std.specs.Global.{Vec}
use Rattle.pk_sets.specs.Sets.{union}

-- the numbers of each list
abbrev pub items_of : List (Vec ℕ) → List (List ℕ)
items_of lists = map (λ (v : Vec ℕ). v.items) lists

-- the numbers that are in one of the lists
abbrev pub union_of : List (List ℕ) → List ℕ
union_of [] = []
union_of (list ∷ lists) = union list (union_of lists)
