-- The words that documents have, in order.
use Rattle.std.specs.Prelude.{◌↔◌, ◌<◌, ◌∷◌, ℕ, List, [], Contains, length}
use Rattle.std.specs.Cmp.Lexicographic.{slice_cmp}
use Rattle.std.specs.List.Sorted.{IsStrictlySortedBy}
use Rattle.std.specs.Ordering.{match_ordering, nat_cmp}
use Rattle.pk_model.specs.Collection.{Doc, answer}
use Rattle.pk_model.specs.Tree.{Term}
use Rattle.pk_model.specs.Words.{words_of}

-- The words are those that occur in the documents, each once, rising by their bytes.
pub record AreTerms (words : List (List ℕ)) (docs : List Doc) : Type 0 where
  pub rising : IsStrictlySortedBy (slice_cmp nat_cmp) words
  pub each : (w : List ℕ) → Contains words w ↔ (0 < length (answer (Term w) docs))

-- a word at its place among words that rise by their bytes, once
abbrev pub with_word : List ℕ → List (List ℕ) → List (List ℕ)
with_word w [] = w ∷ []
with_word w (v ∷ vs) =
    match_ordering (slice_cmp nat_cmp w v) (w ∷ v ∷ vs) (v ∷ vs) (v ∷ with_word w vs)

-- words at their places among others
abbrev pub with_words : List (List ℕ) → List (List ℕ) → List (List ℕ)
with_words [] vs = vs
with_words (w ∷ ws) vs = with_word w (with_words ws vs)

-- the words that occur in the documents, each once, rising by their bytes
unfoldable pub terms_of : List Doc → List (List ℕ)
terms_of [] = []
terms_of (d ∷ docs) = with_words (words_of d.text) (terms_of docs)
