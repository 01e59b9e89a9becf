-- What a store means: a collection of documents, and what a query answers.
use Rattle.std.specs.Prelude.{ℕ, ◌<◌, ◌≤◌, ◌==◌, Bool, List, [], map, filter, All}
use Rattle.std.specs.List.{list_any}
use Rattle.std.specs.List.Sorted.{IsStrictlyIncreasing}
use Rattle.pk_model.specs.Words.{words_of}
use Rattle.pk_model.specs.Tree.{Tree, satisfies}

-- a document: its number and the bytes of its text
pub record Doc : Type 0 where
  pub number : ℕ
  pub text : List ℕ

-- the next number, and the live documents in the order of their numbers
pub record Collection : Type 0 where
  pub next : ℕ
  pub documents : List Doc

-- the numbers of documents
abbrev pub numbers_of : List Doc → List ℕ
numbers_of docs = map (λ (d : Doc). d.number) docs

-- the numbers strictly rise, and are at least 1 and below the next number
pub record IsCollection (c : Collection) : Type 0 where
  pub rising : IsStrictlyIncreasing (numbers_of c.documents)
  pub each : All (λ (d : Doc). (1 ≤ d.number) × (d.number < c.next)) c.documents
  pub next : 1 ≤ c.next

-- the collection of a new store
abbrev pub empty : Collection
empty = record { next = 1; documents = [] }

-- the document has this number
abbrev pub has_number : ℕ → Doc → Bool
has_number n d = d.number == n

-- one of the documents has this number
abbrev pub is_live : ℕ → List Doc → Bool
is_live n docs = list_any (has_number n) docs

-- the words of the document satisfy the query
abbrev pub is_hit : Tree → Doc → Bool
is_hit query d = satisfies query (words_of d.text)

-- the numbers of the documents whose words satisfy the query, in their order
abbrev pub answer : Tree → List Doc → List ℕ
answer query docs = numbers_of (filter (is_hit query) docs)
