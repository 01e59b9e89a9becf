-- The words of a query.
use Rattle.std.specs.Borrow.{Bor}
use Rattle.std.specs.Prelude.{ℕ, List, [], ◌∷◌, ◌++◌, map}
use Rattle.pk_model.specs.Tree.{Tree, Term, Phrase, Prefix, And, Or, Not}

-- lent words as lists of bytes
abbrev pub texts : List (Bor (List ℕ)) → List (List ℕ)
texts words = map (λ (word : Bor (List ℕ)). word.now) words

-- the words of a query in the order of its text: of a phrase each, of a prefix what a word is to begin with
abbrev pub leaves : Tree → List (List ℕ)
leaves (Term word) = word ∷ []
leaves (Phrase row) = row
leaves (Prefix prefix) = prefix ∷ []
leaves (And left right) = leaves left ++ leaves right
leaves (Or left right) = leaves left ++ leaves right
leaves (Not part) = leaves part
