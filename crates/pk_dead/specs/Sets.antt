-- A rising list of numbers with one number more.
use Rattle.std.specs.Prelude.{ℕ, List, [], ◌∷◌, ◌==◌, nat_lt, if◌then◌else◌}

-- a rising list with n put in at its place; where n is there already, the list
unfoldable pub with_number : ℕ → List ℕ → List ℕ
with_number n [] = n ∷ []
with_number n (m ∷ ms) =
    if nat_lt n m then n ∷ m ∷ ms
    else (if n == m then m ∷ ms else m ∷ with_number n ms)
