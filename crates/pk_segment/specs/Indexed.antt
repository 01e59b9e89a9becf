-- The index of documents: the posting list of each term, and the dictionary of the terms.
use Rattle.std.specs.Prelude.{ℕ, ◌+◌, List, [], ◌∷◌, ◌++◌, length}
use Rattle.pk_dict.specs.Dictionary.{Item, item_of}
use Rattle.pk_dict.specs.Dictionary.{spelling as dictionary_spelling}
use Rattle.pk_model.specs.Collection.{Doc, answer}
use Rattle.pk_model.specs.Terms.{terms_of}
use Rattle.pk_model.specs.Tree.{Term}
use Rattle.pk_posting.specs.Spelling.{spelling as list_spelling}

-- the numbers of the documents that have a word
abbrev pub list_with : List ℕ → List Doc → List ℕ
list_with word docs = answer (Term word) docs

-- the posting lists of words, one after another, without gaps
abbrev pub lists_of : List (List ℕ) → List Doc → List ℕ
lists_of [] docs = []
lists_of (w ∷ ws) docs = list_spelling (list_with w docs) ++ lists_of ws docs

-- what the dictionary says of words whose lists begin at an offset
abbrev pub items_at : ℕ → List (List ℕ) → List Doc → List Item
items_at at [] docs = []
items_at at (w ∷ ws) docs =
    item_of w (length (list_with w docs))
    (record { at = at; bytes = length (list_spelling (list_with w docs)) })
    ∷ items_at (at + length (list_spelling (list_with w docs))) ws docs

-- the entries of all terms
abbrev pub items_of : List Doc → List Item
items_of docs = items_at 0 (terms_of docs) docs

-- the posting lists of all terms, in their order
unfoldable pub postings : List Doc → List ℕ
postings docs = lists_of (terms_of docs) docs

-- the dictionary of all terms
unfoldable pub dictionary : List Doc → List ℕ
dictionary docs = dictionary_spelling (items_of docs)
