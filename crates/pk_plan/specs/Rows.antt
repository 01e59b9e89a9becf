-- Where words are to stand in a row, their lists come first: a text is read only of a document that
-- holds each of the words.
use Rattle.std.specs.Prelude.{◌≡◌, ◌⊎◌, ◌<◌, ℕ, Bool, true, List, [], ◌++◌, length, take, drop, get_or}
use Rattle.std.specs.List.{list_all, list_any}
use Rattle.std.specs.Simd.Lanes.{Each1}
use Rattle.std.specs.Str.{bytes_eq}
use Rattle.pk_plan.specs.declared.plans.Plan.{Plan}
use Rattle.pk_plan.specs.declared.operands.Operands.{Operands}
use Rattle.pk_plan.specs.declared.operands.PhrasePlaces.{PhrasePlaces}
use Rattle.pk_plan.specs.Operands.{all_take}
use Rattle.pk_plan.specs.Plans.{WithPrefix, Both, Either, Everything, Holding, InRow, Nothing}
use Rattle.pk_plan.specs.Plans.{Operation, Without, operation_of, takes}
use Rattle.pk_plan.specs.Words.{leaves}
use Rattle.pk_model.specs.Tree.{Tree}

-- whether each word of the row is among the words of a document
abbrev pub has_each : List (List ℕ) → List (List ℕ) → Bool
has_each row words = list_all (λ word. list_any (bytes_eq word) words) row

-- what stands beside an operation: a row, of which that operation takes only documents with each of
-- its words; or another one, of which this is so
abbrev pub StandsBeside : Operation → Operation → Type 0 → Type 0
StandsBeside left (InRow row) rests =
    (words : List (List ℕ)) → takes left words ≡ true → has_each row words ≡ true
StandsBeside left (Holding word) rests = rests
StandsBeside left (WithPrefix prefix) rests = rests
StandsBeside left Everything rests = rests
StandsBeside left Nothing rests = rests
StandsBeside left (Both a b) rests = rests
StandsBeside left (Either a b) rests = rests
StandsBeside left (Without a b) rests = rests

-- EACH ROW RESTS ON ITS WORDS
abbrev pub RestsOnWords : Operation → Type 0
RestsOnWords (Holding word) = Unit {0}
RestsOnWords (InRow row) = ⊥
RestsOnWords (WithPrefix prefix) = Unit {0}
RestsOnWords Everything = Unit {0}
RestsOnWords Nothing = Unit {0}
RestsOnWords (Both left right) = RestsOnWords left × StandsBeside left right (RestsOnWords right)
RestsOnWords (Either left right) = RestsOnWords left × RestsOnWords right
RestsOnWords (Without left right) = RestsOnWords left × RestsOnWords right

-- those of each plan do
abbrev pub AllRest : List (List ℕ) → List Plan → Type 0
AllRest asked plans = Each1 (λ (p : Plan). RestsOnWords (operation_of asked p)) plans

-- a document that has what the places and the parts ask has each word of the row
abbrev pub HasEach : List (List ℕ) → Operands → List (List ℕ) → Type 0
HasEach asked o row = (words : List (List ℕ))
    → all_take asked words o.places.items o.parts.items ≡ true → has_each row words ≡ true

-- the words of a phrase
abbrev pub row_of : List (List ℕ) → PhrasePlaces → List (List ℕ)
row_of asked p = take p.count (drop p.first asked)

-- what is gathered of a query rests on words
pub record OperandsRest (asked : List (List ℕ)) (o : Operands) : Type 0 where
  pub parts : AllRest asked o.parts.items
  pub excluded : AllRest asked o.excluded.items
  pub phrases : Each1 (λ (p : PhrasePlaces). HasEach asked o (row_of asked p)) o.phrases.items

-- the words stand among those that are asked, from a place on
pub record StandAt (asked : List (List ℕ)) (from : ℕ) (row : List (List ℕ)) : Type 0 where
  pub before : List (List ℕ)
  pub behind : List (List ℕ)
  pub place : length before ≡ from
  pub all : asked ≡ before ++ (row ++ behind)

-- Words came to the operands, and nothing else: what has all that they ask now had all before.
pub record IsNarrowed (old new : Operands) : Type 0 where
  pub parts : new.parts.items ≡ old.parts.items
  pub excluded : new.excluded.items ≡ old.excluded.items
  pub phrases : new.phrases.items ≡ old.phrases.items
  pub takes : (asked words : List (List ℕ))
      → all_take asked words new.places.items new.parts.items ≡ true
      → all_take asked words old.places.items old.parts.items ≡ true

-- a document that has what the operands ask has the word at a place of the row; or the same word
-- stands in the row before
abbrev pub IsPutOnce : List (List ℕ) → Operands → List (List ℕ) → ℕ → Type 0
IsPutOnce asked o row i =
    ((words : List (List ℕ)) → all_take asked words o.places.items o.parts.items ≡ true
    → list_any (bytes_eq (get_or row i [])) words ≡ true)
    ⊎ ((j : ℕ) × (j < i) × (get_or row j [] ≡ get_or row i []))

-- a plan of a query that stands from a place on rests on its words
abbrev pub RestsFrom : Tree → ℕ → Plan → Type 0
RestsFrom query from plan = (asked : List (List ℕ)) → StandAt asked from (leaves query)
    → RestsOnWords (operation_of asked plan)

-- The query from a place on came to the alternatives, and all of them rest on their words.
pub record JoinsRest (query : Tree) (from : ℕ) (old new : List Plan) : Type 0 where
  pub rest : (asked : List (List ℕ)) → StandAt asked from (leaves query) → AllRest asked old
      → AllRest asked new

-- And so to the operands.
pub record GathersRest (query : Tree) (from : ℕ) (old new : Operands) : Type 0 where
  pub rest : (asked : List (List ℕ)) → StandAt asked from (leaves query) → OperandsRest asked old
      → OperandsRest asked new
