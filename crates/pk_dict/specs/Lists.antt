-- Lists of items as they are written.
use Rattle.std.specs.Prelude.{◌*◌, ℕ, zero, suc, List, [], ◌∷◌, ◌++◌, length, take}
use Rattle.pk_dict.specs.Dictionary.{Item, groups}

-- the last term, or the one before the list
abbrev pub last_of : List ℕ → List Item → List ℕ
last_of before [] = before
last_of before (e ∷ es) = last_of e.term es

-- the starts of the first n groups
abbrev pub starts_of : List Item → ℕ → List ℕ
starts_of es zero = []
starts_of es (suc n) = starts_of es n ++ length (groups (take (16 * n) es)) ∷ []
