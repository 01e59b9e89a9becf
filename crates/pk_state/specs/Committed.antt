-- What is committed: the body in force, and what each of its entries stands for.
use Rattle.std.specs.Prelude.{◌≡◌, ℕ, ◌==◌, Bool, true, false, not, nat_le, List, [], ◌∷◌, filter}
use Rattle.std.specs.List.{flat_map, list_any}
use Rattle.pk_manifest.specs.Spelling.{Body}
use Rattle.pk_model.specs.Collection.{Doc, Collection, numbers_of, is_live}

-- what an entry stands for: the documents of its segment, and the numbers of its deletion list
pub record Stored : Type 0 where
  pub documents : List Doc
  pub dead : List ℕ

-- a body, and what each of its entries stands for, in their order
pub record Committed : Type 0 where
  pub body : Body
  pub stored : List Stored

-- the number is listed
abbrev pub lists : ℕ → List ℕ → Bool
lists n ns = list_any (λ m. m == n) ns

-- the documents of an entry that its deletion list leaves
abbrev pub live_of : Stored → List Doc
live_of s = filter (λ d. not (lists d.number s.dead)) s.documents

-- those of all entries
abbrev pub live_in : List Stored → List Doc
live_in stored = flat_map live_of stored

-- the documents of all entries, dropped ones too
abbrev pub all_in : List Stored → List Doc
all_in stored = flat_map (λ s. s.documents) stored

-- the committed collection
abbrev pub collection_of : Committed → Collection
collection_of c = record { next = c.body.next_number; documents = live_in c.stored }

-- the same as if nothing were deleted
abbrev pub whole_of : Committed → Collection
whole_of c = record { next = c.body.next_number; documents = all_in c.stored }

-- the numbers are those of some of the documents
abbrev pub Names : List ℕ → List Doc → Type 0
Names ns docs = (n : ℕ) → lists n ns ≡ true → is_live n docs ≡ true

-- the documents that no commit has taken
abbrev pub uncommitted : Committed → Collection → List Doc
uncommitted c now = filter (λ d. nat_le c.body.next_number d.number) now.documents

-- all deleted numbers of an entry, committed and pending
abbrev pub deleted_of : Collection → Stored → List ℕ
deleted_of now s = numbers_of (filter (λ d. not (is_live d.number now.documents)) s.documents)

-- a deletion of one of its documents is pending: not yet committed
abbrev pub is_pending : Collection → Stored → Bool
is_pending now s = list_any (λ d. not (is_live d.number now.documents)) (live_of s)

-- there is a document
abbrev pub has_documents : List Doc → Bool
has_documents [] = false
has_documents (d ∷ docs) = true
