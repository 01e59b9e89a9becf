-- A crash, by the bytes that it puts at the open positions.
use Rattle.std.specs.Prelude.{◌+◌, Bool, if◌then◌else◌, ℕ, List, [], ◌∷◌}

-- the bytes from position p on, with the picks at the open positions as far as they go
abbrev pub crashed : (ℕ → Bool) → ℕ → List ℕ → List ℕ → List ℕ
crashed is_open p [] picks = []
crashed is_open p (b ∷ bs) [] = b ∷ bs
crashed is_open p (b ∷ bs) (x ∷ picks) =
    if is_open p then x ∷ crashed is_open (p + 1) bs picks
    else b ∷ crashed is_open (p + 1) bs (x ∷ picks)

-- what an image has at the open positions from p on
abbrev pub picks_of : (ℕ → Bool) → ℕ → List ℕ → List ℕ
picks_of is_open p [] = []
picks_of is_open p (b ∷ bs) =
    if is_open p then b ∷ picks_of is_open (p + 1) bs else picks_of is_open (p + 1) bs
