-- Lists with and without elements, and a number at its place.
use Rattle.std.proofs.Common.{◌≡◌, ◌∙◌, ◌==◌, ◌<◌, ℕ, zero, suc, Bool, true, false, List, [], ◌∷◌, get_or, length, slice_index, refl, sym, arith}
use Rattle.std.proofs.lemmas.Bool.{ne_eqb}

pub nonempty : {X : Type 0} (xs : List X) (b : Bool) → b ≡ (length xs == 0) → b ≡ false → 0 < length xs
nonempty [] b e f = absurd (let k : true ≡ false = sym e ∙ f in cc)
nonempty (x ∷ xs) b e f = omega arith

pub none_there : {X : Type 0} (xs : List X) (b : Bool) → b ≡ (length xs == 0) → b ≡ true → xs ≡ []
none_there [] b e f = refl
none_there (x ∷ xs) b e f = absurd (let k : true ≡ false = sym f ∙ e ∙ ne_eqb (length (x ∷ xs)) 0 (omega arith) in cc)

-- a number at its place
pub number_at : (xs : List ℕ) (i : ℕ) → i < length xs → slice_index xs i ≡ get_or xs i (slice_index xs i)
number_at [] i lt = absurd (omega arith)
number_at (x ∷ xs) zero lt = refl
number_at (x ∷ xs) (suc i) lt = number_at xs i (omega arith)
