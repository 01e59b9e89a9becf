-- Which words of a text a search for a row may skip.
use Rattle.std.specs.Prelude.{◌≡◌, ◌++◌, ℕ, List, map, take}
use Rattle.pk_model.specs.Tree.{stand_in}
use Rattle.pk_model.specs.Words.{folded}
use Rattle.pk_pieces.specs.Pieces.{words_from}

-- Where so many words of the row are begun, it stands in the words from the one place on where it
-- stands in those from the other, whatever follows.
abbrev pub MaySkip : List (List ℕ) → List ℕ → ℕ → ℕ → ℕ → Type 0
MaySkip row bytes begun from to = (rest : List (List ℕ))
    → stand_in row (take begun row ++ (map folded (words_from bytes from) ++ rest))
    ≡ stand_in row (take begun row ++ (map folded (words_from bytes to) ++ rest))
