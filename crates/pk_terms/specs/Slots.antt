-- Slots of a table: of each hash in which ones it is looked for, and which of them are taken.
use Rattle.std.specs.Prelude.{◌≡◌, ℕ, zero, suc, ◌+◌, ◌-◌, ◌*◌, ◌<◌, ◌≤◌, List, length, max, slice_index, bit_and}

-- how many slots come after so many: twice as many, and 2,048 at the least
abbrev pub size_above : ℕ → ℕ
size_above count = max (2 * count) 2048

-- the slot of a number among so many
abbrev pub slot_of : ℕ → ℕ → ℕ
slot_of count number = bit_and number (count - 1)

-- the slot that is so many steps behind the first one of a hash
unfoldable pub step_of : ℕ → ℕ → ℕ → ℕ
step_of count hash zero = slot_of count hash
step_of count hash (suc n) = slot_of count (step_of count hash n + 1)

-- the first so many slots of a hash are taken
abbrev pub AreTaken : ℕ → List ℕ → ℕ → ℕ → Type 0
AreTaken count nexts hash steps = (k : ℕ) → k < steps → 0 < slice_index nexts (step_of count hash k)

-- behind slots that are taken `next` stands in one of the hash
pub record IsReached (count : ℕ) (nexts : List ℕ) (hash next : ℕ) : Type 0 where
  pub steps : ℕ
  pub few : steps < count
  pub here : slice_index nexts (step_of count hash steps) ≡ next
  pub taken : AreTaken count nexts hash steps

-- the first slot of the hash that is free
pub record IsFree (count : ℕ) (nexts : List ℕ) (hash at : ℕ) : Type 0 where
  pub steps : ℕ
  pub few : steps < count
  pub is : at ≡ step_of count hash steps
  pub within : at < length nexts
  pub free : slice_index nexts at ≡ 0
  pub taken : AreTaken count nexts hash steps

-- each slot is free or has a place below that of the next hash, and each hash's place is reached
pub record HaveSlots (hashes slots : List ℕ) : Type 0 where
  pub within : (k : ℕ) → slice_index slots k ≤ length hashes
  pub reached : (place : ℕ) → place < length hashes → IsReached (length slots) slots (slice_index hashes place) (place + 1)
