-- The posting lists of a merge that is prepared: packed, or joined again by a walk.
use Rattle.std.specs.Prelude.{◌≡◌, ◌≤◌, ℕ, List, length, All}
use Rattle.pk_join.specs.declared.input.MergeInput.{MergeInput}
use Rattle.pk_join.specs.declared.walk.Walk.{Walk}
use Rattle.pk_join.specs.Inputs.{SpellsInputs}
use Rattle.pk_join.specs.Rooms.{WalkIsRoomy}
use Rattle.pk_join.specs.Walk.{IsAtStart, WalksWithin, walk_lists, walk_room}
use Rattle.pk_join.specs.WalkInput.{HaveExtentsOf, Holds}
use Rattle.pk_join.specs.Walking.{AreListed, CanHold}
use Rattle.pk_merge.specs.declared.lists.Lists.{Lists}
use Rattle.pk_merge.specs.declared.lists.Lists.TheVariants.{Packed, Walked}
use Rattle.pk_merge.specs.declared.lists.TheConstants.{MOST_KEPT_LISTS}
use Rattle.pk_model.specs.Terms.{terms_of}
use Rattle.pk_posting.specs.Spelling.{spelling as list_spelling}
use Rattle.pk_segment.specs.Indexed.{list_with, postings}
use Rattle.pk_state.specs.Committed.{Stored, live_in}

-- A walk joins the lists of what these inputs leave, in room for just the longest.
pub record JoinsLists (inputs : List MergeInput) (stored : List Stored) (walk : Walk) (room : ℕ)
    : Type 0 where
  pub listed : AreListed inputs (walk_lists walk) stored
  pub can : CanHold stored (walk_room walk)
  pub enough : All (λ w. length (list_spelling (list_with w (live_in stored))) ≤ room)
      (terms_of (live_in stored))
  -- and no more than the longest list needs
  pub no_more : (n : ℕ) → All (λ w. length (list_spelling (list_with w (live_in stored))) ≤ n)
      (terms_of (live_in stored)) → room ≤ n
  -- there is room for each word, so it takes no memory
  pub roomy : (bytes : List ℕ) → SpellsInputs bytes inputs stored → WalkIsRoomy bytes walk

-- A walk has passed all words of these inputs, on a disk of these bytes.
pub record HasGone (bytes : List ℕ) (inputs : List MergeInput) (stored : List Stored) (walk : Walk)
    : Type 0 where
  pub extents : HaveExtentsOf inputs walk.inputs.items
  pub spells : SpellsInputs bytes inputs stored
  pub listed : AreListed inputs (walk_lists walk) stored
  pub can : CanHold stored (walk_room walk)
  pub hold : All (Holds bytes) walk.inputs.items

-- they are the posting lists of what these inputs leave
abbrev pub GiveLists : List MergeInput → List Stored → Lists → Type 0
GiveLists inputs stored (Packed bytes) = bytes.items ≡ postings (live_in stored)
GiveLists inputs stored (Walked walk encoded) =
    JoinsLists inputs stored walk (length encoded.items)

-- lists that are packed are few bytes, and a walk is one through these inputs, which has passed no
-- word
abbrev pub AreOfInputs : List MergeInput → Lists → Type 0
AreOfInputs inputs (Packed bytes) = length bytes.items ≤ MOST_KEPT_LISTS
AreOfInputs inputs (Walked walk encoded) = HaveExtentsOf inputs walk.inputs.items × IsAtStart walk

-- what is walked through lies within a disk of so many bytes
abbrev pub AreWithin : ℕ → Lists → Type 0
AreWithin size (Packed bytes) = Unit {0}
AreWithin size (Walked walk encoded) = WalksWithin size walk
