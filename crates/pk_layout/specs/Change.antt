-- What becomes of the open segments once a plan's body is in force.
use Rattle.std.specs.Prelude.{◌≤◌, ◌<◌, ◌+◌, ℕ, zero, suc, List, [], ◌∷◌, Option, Some, None}
use Rattle.std.specs.Prelude.{if◌then◌else◌, All}
use Rattle.pk_disk.specs.declared.units.Extent.{Extent}
use Rattle.pk_manifest.specs.declared.manifest.Part.{Part as Entry}
use Rattle.pk_open.specs.declared.opened.OpenSegment.{OpenSegment}
use Rattle.pk_open.specs.Opened.{pends}
use Rattle.pk_state.specs.Writing.{replaced}
use Rattle.pk_layout.specs.declared.change.Change.{Change}
use Rattle.pk_layout.specs.declared.change.NewList.{NewList}

-- a list with the item at a place made another
abbrev pub made_at : {X : Type 0} → (X → X) → ℕ → List X → List X
made_at f place [] = []
made_at f zero (x ∷ xs) = f x ∷ xs
made_at f (suc place) (x ∷ xs) = x ∷ made_at f place xs

-- the entry with a list in this extent
abbrev pub with_list : Entry → Extent → Entry
with_list e x = record { segment = e.segment; extent = e.extent; kind = e.kind; dead = Some x }

-- the open segment with this list of what is deleted
abbrev pub listed : NewList → OpenSegment → OpenSegment
listed l o = record {
  entry = with_list o.entry l.extent;
  segment = o.segment;
  dead = l.numbers;
  deleted = o.deleted;
}

-- the open segments with these lists, each at its place
abbrev pub with_lists : List OpenSegment → List NewList → List OpenSegment
with_lists opened [] = opened
with_lists opened (l ∷ lists) = with_lists (made_at (listed l) l.place opened) lists

-- the lists of the segments with a pending deletion, which stand from a place on, in these extents,
-- one after the other
abbrev pub new_lists_in : ℕ → List OpenSegment → List Extent → List NewList
new_lists_in place [] extents = []
new_lists_in place (o ∷ opened) [] = []
new_lists_in place (o ∷ opened) (x ∷ extents) =
    if pends o
    then record { place = place; extent = x; numbers = o.deleted }
    ∷ new_lists_in (place + 1) opened extents
    else new_lists_in (place + 1) opened (x ∷ extents)

-- the open segment that there may be
abbrev pub opened_in : Option OpenSegment → List OpenSegment
opened_in None = []
opened_in (Some o) = o ∷ []

-- WHAT IS OPEN AFTER A CHANGE of these open segments
abbrev pub changed : Change → List OpenSegment → List OpenSegment
changed c opened =
    replaced c.run.from c.run.count (opened_in c.segment) (with_lists opened c.lists.items)

-- it is one of so many segments
pub record Fits (c : Change) (n : ℕ) : Type 0 where
  pub lists : All (λ (l : NewList). l.place < n) c.lists.items
  pub run : c.run.from + c.run.count ≤ n
