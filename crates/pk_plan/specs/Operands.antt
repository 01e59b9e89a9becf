-- What is gathered of a query on the way to its plan.
use Rattle.std.specs.Prelude.{◌≡◌, ◌≤◌, ◌<◌, nat_lt, ℕ, Bool, true, false, not, ◌&&◌, ◌||◌, List, ◌++◌, ◌+◌, length, map}
use Rattle.std.specs.List.{list_all, list_any}
use Rattle.std.specs.Simd.Lanes.{Each1}
use Rattle.pk_model.specs.Tree.{Tree, Term, Phrase, Prefix, And, Or, Not}
use Rattle.pk_plan.specs.declared.plans.Plan.{Plan}
use Rattle.pk_plan.specs.declared.operands.Operands.{Operands}
use Rattle.pk_plan.specs.declared.operands.PhrasePlaces.{PhrasePlaces}
use Rattle.pk_plan.specs.Order.{all_ordered, all_parts, in_order, is_ordered}
use Rattle.pk_plan.specs.Plans.{prefix_at, both_all, either_all, operation_of, row_at, takes, word_at}
use Rattle.pk_plan.specs.Texts.{has_phrase, reads_texts}
use Rattle.pk_plan.specs.Words.{leaves}

-- Whether a query takes a document of these words, where what it asks for stands from a place on
-- among the asked words.
abbrev pub query_takes : List (List ℕ) → List (List ℕ) → ℕ → Tree → Bool
query_takes asked words from (Term word) = takes (word_at asked from) words
query_takes asked words from (Phrase row) = takes (row_at asked from (length row)) words
query_takes asked words from (Prefix prefix) = takes (prefix_at asked from) words
query_takes asked words from (And left right) =
    query_takes asked words from left && query_takes asked words (from + length (leaves left)) right
query_takes asked words from (Or left right) =
    query_takes asked words from left || query_takes asked words (from + length (leaves left)) right
query_takes asked words from (Not part) = not (query_takes asked words from part)

-- one of the plans takes a document of these words
abbrev pub any_takes : List (List ℕ) → List (List ℕ) → List Plan → Bool
any_takes asked words plans = takes (either_all (map (operation_of asked) plans)) words

-- all of the places and all of the parts take it
abbrev pub all_take : List (List ℕ) → List (List ℕ) → List ℕ → List Plan → Bool
all_take asked words places parts =
    takes (both_all (map (word_at asked) places ++ map (operation_of asked) parts)) words

-- each of the phrases does
abbrev pub phrases_take : List (List ℕ) → List (List ℕ) → List PhrasePlaces → Bool
phrases_take asked words phrases = list_all (λ (p : PhrasePlaces). takes (row_at asked p.first p.count) words) phrases

-- all operands take it
abbrev pub operands_take : List (List ℕ) → List (List ℕ) → Operands → Bool
operands_take asked words o = (all_take asked words o.places.items o.parts.items
    && not (any_takes asked words o.excluded.items)) && phrases_take asked words o.phrases.items

-- one of the operands reads texts
abbrev pub operands_read : Operands → Bool
operands_read o = (list_any reads_texts o.parts.items || list_any reads_texts o.excluded.items)
    || nat_lt 0 (length o.phrases.items)

-- the words of the query stand between the two places
abbrev pub IsPassed : Tree → ℕ → ℕ → Type 0
IsPassed query behind from = from + length (leaves query) ≡ behind

-- The plan takes the documents that satisfy the query from a place on, and its words are ordered; it
-- reads texts only where the query has a phrase.
pub record IsPlanOf (table : List ℕ) (query : Tree) (from : ℕ) (plan : Plan) : Type 0 where
  pub same : (asked words : List (List ℕ))
      → takes (operation_of asked plan) words ≡ query_takes asked words from query
  pub ordered : is_ordered table plan ≡ true
  pub texts : has_phrase query ≡ false → reads_texts plan ≡ false

-- the places are ordered and none is below the one given; those of each part are ordered
pub record IsInOrder (table : List ℕ) (from : ℕ) (o : Operands) : Type 0 where
  pub places : in_order table o.places.items ≡ true
  pub above : Each1 (λ p. from ≤ p) o.places.items
  pub parts : all_parts table o.parts.items ≡ true
  pub excluded : all_ordered table o.excluded.items ≡ true

-- the query from a place on came to the alternatives
pub record IsJoined (table : List ℕ) (query : Tree) (from : ℕ) (old new : List Plan) : Type 0 where
  pub same : (asked words : List (List ℕ))
      → any_takes asked words new ≡ (query_takes asked words from query || any_takes asked words old)
  pub ordered : all_ordered table old ≡ true → all_ordered table new ≡ true
  pub more : length old < length new
  pub texts : has_phrase query ≡ false → list_any reads_texts old ≡ false
      → list_any reads_texts new ≡ false

-- the query between two places came to the operands
pub record IsGathered (table : List ℕ) (query : Tree) (behind from : ℕ) (old new : Operands) : Type 0 where
  pub same : (asked words : List (List ℕ))
      → operands_take asked words new
      ≡ (query_takes asked words from query && operands_take asked words old)
  pub ordered : IsInOrder table behind old → IsInOrder table from new
  pub texts : has_phrase query ≡ false → operands_read old ≡ false → operands_read new ≡ false
