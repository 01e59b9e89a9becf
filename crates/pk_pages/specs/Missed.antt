-- Pages that were missed, noted by their numbers: each at its place, the number modulo the places.
use Rattle.std.specs.Prelude.{◌≡◌, ◌⊎◌, ◌<◌, ◌≤◌, ◌+◌, ◌-◌, ◌*◌, ◌%◌, ℕ, List, length}
use Rattle.std.specs.Prelude.{get_or, min}
use Rattle.pk_pages.specs.declared.slots.Slot.{Slot}
use Rattle.pk_pages.specs.Pages.{IsKept, page_bytes}

-- how many pages are noted, at most
abbrev pub most_noted : ℕ
most_noted = 4096

-- page p is the last that was missed of those that have its place; where there are no places, each
-- page counts as noted
abbrev pub IsNoted : List ℕ → ℕ → Type 0
IsNoted missed p = 0 < length missed → get_or missed (p % length missed) 0 ≡ p

-- Notes changed at most at the place of page p.
pub record KeepsNotes (missed missed' : List ℕ) (p : ℕ) : Type 0 where
  pub count : length missed' ≡ length missed
  pub same : (q : ℕ) → (q % length missed ≡ p % length missed → ⊥)
      → get_or missed' (q % length missed) 0 ≡ get_or missed (q % length missed) 0

-- no page that has one of the n positions from at on is noted
abbrev pub AreUnnoted : List ℕ → ℕ → ℕ → Type 0
AreUnnoted missed at n = (p : ℕ) → page_bytes * p < at + n → at < page_bytes * p + page_bytes
    → IsNoted missed p → ⊥

-- the first n bytes of page p are kept, or it is noted
abbrev pub IsKeptOrNoted : List Slot → List ℕ → ℕ → ℕ → Type 0
IsKeptOrNoted slots missed p n = IsKept slots p n ⊎ IsNoted missed p

-- a read of n positions from at on is to leave its pages kept: each is noted, or kept already as
-- far as these reach; with one slot alone the first of them only counts as kept
abbrev pub AreToBeKept : List Slot → List ℕ → ℕ → ℕ → Type 0
AreToBeKept slots missed at n = (p : ℕ) → page_bytes * p < at + n
    → at < page_bytes * p + page_bytes
    → IsNoted missed p ⊎ (IsKept slots p (min page_bytes (at + n - page_bytes * p))
    × (length slots ≡ 1 → page_bytes * p ≤ at))

-- after a read of n positions from at on each page of it is kept as far as these reach, or is noted,
-- or the only slot has the page after it, which has been read, too
abbrev pub AreKeptOrNoted : List Slot → List ℕ → ℕ → ℕ → Type 0
AreKeptOrNoted slots missed at n = (p : ℕ) → page_bytes * p < at + n
    → at < page_bytes * p + page_bytes
    → IsKeptOrNoted slots missed p (min page_bytes (at + n - page_bytes * p))
    ⊎ ((length slots ≡ 1) × (page_bytes * p + page_bytes < at + n))
