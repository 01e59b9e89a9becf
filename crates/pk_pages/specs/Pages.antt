-- Pages of a disk, and the slots that keep them.
use Rattle.std.specs.Prelude.{◌≡◌, ◌⊎◌, ◌<◌, ◌≤◌, ◌+◌, ◌-◌, ◌*◌, ◌%◌, Bool, IsTrue, ℕ, List, length}
use Rattle.std.specs.Prelude.{take, drop, get_or, min, Some, vec_capacity}
use Rattle.pk_pages.specs.declared.slots.Slot.{Slot}

-- how many bytes a page has, at most
abbrev pub page_bytes : ℕ
page_bytes = 4096

-- the bytes of page p; the last page of a disk may have fewer
abbrev pub page_of : List ℕ → ℕ → List ℕ
page_of bytes p = take page_bytes (drop (page_bytes * p) bytes)

-- page p is in a slot
abbrev pub IsIn : Slot → ℕ → Type 0
IsIn slot p = slot.number ≡ Some p

-- the slot where page p may be, d where there are none
abbrev pub slot_for : List Slot → ℕ → Slot → Slot
slot_for slots p d = get_or slots (p % length slots) d

-- page p is in no slot
abbrev pub IsGone : List Slot → ℕ → Type 0
IsGone slots p = (d : Slot) → 0 < length slots → IsIn (slot_for slots p d) p → ⊥

-- each page that is kept has its bytes
abbrev pub ArePagesOf : List ℕ → List Slot → Type 0
ArePagesOf bytes slots = (p : ℕ) (d : Slot) → 0 < length slots → IsIn (slot_for slots p d) p
    → (slot_for slots p d).bytes.items ≡ page_of bytes p

-- no page that is kept has one of the n positions from at on
abbrev pub AreClear : List Slot → ℕ → ℕ → Type 0
AreClear slots at n = (p : ℕ) (d : Slot) → 0 < length slots → IsIn (slot_for slots p d) p
    → (page_bytes * p + page_bytes ≤ at) ⊎ (at + n ≤ page_bytes * p)

-- the first n bytes of page p are kept
abbrev pub IsKept : List Slot → ℕ → ℕ → Type 0
IsKept slots p n = (0 < length slots)
    × ((d : Slot) → (IsIn (slot_for slots p d) p) × (n ≤ length (slot_for slots p d).bytes.items))

-- there is no slot for page p that has memory for a page
abbrev pub HasNoRoom : List Slot → ℕ → Type 0
HasNoRoom slots p = (d : Slot) → 0 < length slots
    → vec_capacity (slot_for slots p d).bytes < page_bytes

-- Slots changed at most where page p may be.
pub record KeepsOthers (slots slots' : List Slot) (p : ℕ) : Type 0 where
  pub count : length slots' ≡ length slots
  pub same : (q : ℕ) (d : Slot) → (q % length slots ≡ p % length slots → ⊥)
      → slot_for slots' q d ≡ slot_for slots q d

-- A read that makes no call below: it is no longer than a page, the last read below succeeded, and
-- each page that has one of its n positions from at on is kept, as far as these reach.
pub record IsHit (last_succeeded : Bool) (slots : List Slot) (at n : ℕ) : Type 0 where
  pub succeeded : IsTrue last_succeeded
  pub some : 0 < n
  pub few : n ≤ page_bytes
  pub kept : (p : ℕ) → page_bytes * p < at + n → at < page_bytes * p + page_bytes
      → IsKept slots p (min page_bytes (at + n - page_bytes * p))

-- Why a page that has been read is not kept: there is no memory for it, or the only slot has the
-- page after it, which has been read, too.
abbrev pub IsUnkept : List Slot → ℕ → ℕ → Type 0
IsUnkept slots p end = HasNoRoom slots p
    ⊎ ((length slots ≡ 1) × (page_bytes * p + page_bytes < end))

-- After a read of n positions from at on the same read makes no call below, but for the pages that
-- there was no place to keep.
pub record IsReadAgain (last_succeeded : Bool) (slots : List Slot) (at n : ℕ) : Type 0 where
  pub succeeded : IsTrue last_succeeded
  pub kept : (p : ℕ) → page_bytes * p < at + n → at < page_bytes * p + page_bytes
      → IsKept slots p (min page_bytes (at + n - page_bytes * p)) ⊎ IsUnkept slots p (at + n)
