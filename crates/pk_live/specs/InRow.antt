-- Words in a row, in the texts of documents whose numbers stand beside them.
use Rattle.std.specs.Prelude.{ℕ, Bool, false, List, [], ◌∷◌, cond, nat_eq}
use Rattle.pk_model.specs.Collection.{Doc}
use Rattle.pk_model.specs.Tree.{stand_in}
use Rattle.pk_model.specs.Words.{words_of}

-- the row stands in the text of the first document beside which this number stands
abbrev pub stands : List (List ℕ) → List ℕ → List Doc → ℕ → Bool
stands row [] docs n = false
stands row (m ∷ live) [] n = false
stands row (m ∷ live) (d ∷ docs) n = cond (nat_eq n m) (stand_in row (words_of d.text)) (stands row live docs n)
