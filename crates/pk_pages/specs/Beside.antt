-- Pages beside a range, which a write of the range leaves kept.
use Rattle.std.specs.Prelude.{◌⊎◌, ◌≤◌, ◌+◌, ◌*◌, ℕ, List}
use Rattle.pk_pages.specs.declared.slots.Slot.{Slot}
use Rattle.pk_pages.specs.Pages.{IsKept, page_bytes}

-- what is kept of each page that has none of the n positions from at on stays kept
abbrev pub KeepsBeside : List Slot → List Slot → ℕ → ℕ → Type 0
KeepsBeside slots slots' at n = (p k : ℕ)
    → (page_bytes * p + page_bytes ≤ at) ⊎ (at + n ≤ page_bytes * p)
    → IsKept slots p k → IsKept slots' p k
