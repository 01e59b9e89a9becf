-- A walk through the words of several inputs.
use Rattle.std.specs.Prelude.{◌≡◌, ◌++◌, ℕ, Bool, true, false, List, [], ◌∷◌, length, slice_get, All}
use Rattle.pk_join.specs.declared.input.MergeInput.{MergeInput}
use Rattle.pk_join.specs.declared.walk.Walk.{Walk}
use Rattle.pk_join.specs.Inputs.{SpellsInputs}
use Rattle.pk_join.specs.Listed.{ListSource}
use Rattle.pk_join.specs.WalkInput.{HaveExtentsOf, Holds, IsBefore, IsWithin, extents_of, lists_of, passed_of, word_in}
use Rattle.pk_join.specs.Walking.{AreListed, CanHold, Walks, to_come}
use Rattle.pk_segment.specs.Indexed.{list_with}
use Rattle.pk_state.specs.Committed.{Stored, live_in}

-- what the words of its inputs, with their lists, are read from
abbrev pub walk_lists : Walk → List ListSource
walk_lists walk = lists_of walk.inputs.items

-- how many numbers it may join
abbrev pub walk_room : Walk → ℕ
walk_room walk = walk.list.joined.room

-- the numbers of the word that it passed last
abbrev pub walk_numbers : Walk → List ℕ
walk_numbers walk = walk.list.joined.numbers.items

-- and that word
abbrev pub walk_word : Walk → List ℕ
walk_word walk = word_in (slice_get walk.inputs.items walk.at)

-- how many words of all inputs are to come, each input's own
abbrev pub words_to_come : Walk → ℕ
words_to_come walk =
    to_come (walk_lists walk) (passed_of walk.inputs.items) (length (walk_lists walk))

-- each of its inputs lies within a disk of so many bytes
abbrev pub WalksWithin : ℕ → Walk → Type 0
WalksWithin size walk = All (IsWithin size) walk.inputs.items

-- No word was come to, and nothing is read ahead.
abbrev pub IsAtStart : Walk → Type 0
IsAtStart walk = All IsBefore walk.inputs.items

-- It is a walk through the same inputs.
pub record IsSameWalk (old new : Walk) : Type 0 where
  pub lists : walk_lists new ≡ walk_lists old
  pub extents : extents_of new.inputs.items ≡ extents_of old.inputs.items
  pub room : walk_room new ≡ walk_room old

-- The inputs spell what is stored, and of the terms of the documents that are left the walk through
-- their words has passed the first, and the others are to come. What it read of each input stands in
-- it.
pub record HasCome (bytes : List ℕ) (inputs : List MergeInput) (stored : List Stored) (walk : Walk)
    (xs ys : List (List ℕ)) : Type 0 where
  pub extents : HaveExtentsOf inputs walk.inputs.items
  pub spells : SpellsInputs bytes inputs stored
  pub listed : AreListed inputs (walk_lists walk) stored
  pub can : CanHold stored (walk_room walk)
  pub walks : Walks (passed_of walk.inputs.items) stored xs ys
  pub hold : All (Holds bytes) walk.inputs.items

-- The walk has passed its word, the first of those that were to come, and has what is left of its
-- list.
pub record GoesTo (bytes : List ℕ) (inputs : List MergeInput) (stored : List Stored) (walk : Walk)
    (xs ys : List (List ℕ)) : Type 0 where
  pub rest : List (List ℕ)
  pub first : ys ≡ walk_word walk ∷ rest
  pub numbers : walk_numbers walk ≡ list_with (walk_word walk) (live_in stored)
  pub come : HasCome bytes inputs stored walk (xs ++ walk_word walk ∷ []) rest

-- a walk has gone to a word; to none where none was to come
abbrev pub GoesAs : List ℕ → List MergeInput → List Stored → Walk → List (List ℕ)
    → List (List ℕ) → Bool → Type 0
GoesAs bytes inputs stored walk xs ys false = ys ≡ []
GoesAs bytes inputs stored walk xs ys true = GoesTo bytes inputs stored walk xs ys
