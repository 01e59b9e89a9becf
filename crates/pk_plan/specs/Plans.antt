-- What a plan means: operations on sets of documents.
use Rattle.std.specs.Prelude.{◌≡◌, ℕ, ◌+◌, zero, suc, nat_lt, Bool, true, false, not, ◌&&◌, ◌||◌, cond, List, [], ◌∷◌, ◌++◌, map, take, drop, length}
use Rattle.std.specs.List.{list_any}
use Rattle.std.specs.List.Sorted.{IsStrictlyIncreasing}
use Rattle.std.specs.Str.{bytes_eq}
use Rattle.pk_model.specs.Collection.{Doc, answer, numbers_of}
use Rattle.pk_model.specs.Tree.{Phrase, Prefix, Term, Tree, begins_with, stand_in}
use Rattle.pk_sets.specs.Sets.{difference, intersection, union}
use Rattle.pk_plan.specs.declared.plans.Plan.{Plan}
use Rattle.pk_plan.specs.declared.plans.Plan.TheOpen.{Plan-F}
use Rattle.pk_plan.specs.declared.plans.Plan.TheFolds.{fold-Plan}
use Rattle.pk_plan.specs.declared.plans.Planned.{Planned}
use Rattle.pk_plan.specs.Words.{texts}

-- a plan as operations on two sets each
pub data Operation : Type 0 where
  Holding : (word : List ℕ) → Operation
  InRow : (row : List (List ℕ)) → Operation
  WithPrefix : (prefix : List ℕ) → Operation
  Everything : Operation
  Nothing : Operation
  Both : (left right : Operation) → Operation
  Either : (left right : Operation) → Operation
  Without : (left right : Operation) → Operation

-- the intersection and the union of several
abbrev pub both_all : List Operation → Operation
both_all [] = Everything
both_all (o ∷ os) = Both o (both_all os)

abbrev pub either_all : List Operation → Operation
either_all [] = Nothing
either_all (o ∷ os) = Either o (either_all os)

-- the documents that hold the word at a place; none past the last word
abbrev pub word_at : List (List ℕ) → ℕ → Operation
word_at [] place = Nothing
word_at (word ∷ words) zero = Holding word
word_at (word ∷ words) (suc place) = word_at words place

-- those that hold a word that begins with what stands at a place
abbrev pub prefix_at : List (List ℕ) → ℕ → Operation
prefix_at [] place = Nothing
prefix_at (word ∷ words) zero = WithPrefix word
prefix_at (word ∷ words) (suc place) = prefix_at words place

-- those in which so many words from a place on stand in a row; none where these pass the last word
abbrev pub row_at : List (List ℕ) → ℕ → ℕ → Operation
row_at words first count =
    cond (nat_lt (length words) (first + count)) Nothing (InRow (take count (drop first words)))

-- one level of a plan over the words of a query, with the operation of each part
abbrev pub operation_step : List (List ℕ) → Plan-F Operation → Operation
operation_step words (Plan-F.Term place) = word_at words place
operation_step words (Plan-F.Prefix place) = prefix_at words place
operation_step words Plan-F.All = Everything
operation_step words (Plan-F.Intersect places parts) =
    both_all (map (word_at words) places.items ++ parts.items)
operation_step words (Plan-F.Unite parts) = either_all parts.items
operation_step words (Plan-F.Exclude all less) = Without all.value less.value
operation_step words (Plan-F.Phrase all first count) = Both all.value (row_at words first count)

-- a plan as an operation, where its places mean these words
abbrev pub operation_of : List (List ℕ) → Plan → Operation
operation_of words = fold-Plan Operation (operation_step words)

-- the numbers that an operation finds among documents
abbrev pub found : Operation → List Doc → List ℕ
found (Holding word) docs = answer (Term word) docs
found (InRow row) docs = answer (Phrase row) docs
found (WithPrefix prefix) docs = answer (Prefix prefix) docs
found Everything docs = numbers_of docs
found Nothing docs = []
found (Both left right) docs = intersection (found left docs) (found right docs)
found (Either left right) docs = union (found left docs) (found right docs)
found (Without left right) docs = difference (found left docs) (found right docs)

-- the numbers that a plan finds among documents, where its places mean these words
abbrev pub finds : List (List ℕ) → Plan → List Doc → List ℕ
finds words plan docs = found (operation_of words plan) docs

-- the numbers that a planned query finds among documents
abbrev pub means : Planned → List Doc → List ℕ
means planned docs = finds (texts planned.words.items) planned.plan docs

-- THE PLAN IS ONE FOR THE QUERY: it finds the answer over all documents whose numbers rise
abbrev pub IsPlanFor : Planned → Tree → Type 0
IsPlanFor planned query =
    (docs : List Doc) → IsStrictlyIncreasing (numbers_of docs) → means planned docs ≡ answer query docs

-- whether a document of these words is among them
abbrev pub takes : Operation → List (List ℕ) → Bool
takes (Holding word) words = list_any (bytes_eq word) words
takes (InRow row) words = stand_in row words
takes (WithPrefix prefix) words = list_any (begins_with prefix) words
takes Everything words = true
takes Nothing words = false
takes (Both left right) words = takes left words && takes right words
takes (Either left right) words = takes left words || takes right words
takes (Without left right) words = takes left words && not (takes right words)
