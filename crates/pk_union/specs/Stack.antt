-- A stack of lists that are to be united, by their lengths, the lowest first.
use Rattle.std.specs.Prelude.{ℕ, ◌*◌, ◌<◌, List, [], ◌∷◌, length, map}
use Rattle.std.specs.Global.{Vec}

-- how many numbers each list has
abbrev pub lengths_of : List (Vec ℕ) → List ℕ
lengths_of lists = map (λ (v : Vec ℕ). length v.items) lists

-- each list is more than twice as long as the one above it
abbrev pub IsStack : List ℕ → Type 0
IsStack [] = Unit {0}
IsStack (n ∷ []) = Unit {0}
IsStack (n ∷ m ∷ ms) = (2 * m < n) × IsStack (m ∷ ms)
