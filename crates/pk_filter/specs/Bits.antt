-- Which bits are set in the lanes of a filter.
use Rattle.std.specs.Prelude.{◌≡◌, ℕ, ◌+◌, ◌<◌, List, bit_and, slice_index}
use Rattle.pk_filter.specs.declared.hash.WordHash.{WordHash}
use Rattle.pk_filter.specs.Hashed.{mask_of}

-- all bits of a number are set in another
abbrev pub IsIn : ℕ → ℕ → Type 0
IsIn bits x = bit_and x bits ≡ bits

-- the bit of a hash is set in a lane of the block that begins there
abbrev pub HasBit : List ℕ → ℕ → WordHash → ℕ → Type 0
HasBit lanes start hash lane = IsIn (mask_of hash lane) (slice_index lanes (start + lane))

-- its bits are set in the eight lanes of the block
abbrev pub HasBits : List ℕ → ℕ → WordHash → Type 0
HasBits lanes start hash = (lane : ℕ) → lane < 8 → HasBit lanes start hash lane

-- each lane has the bits that it had
pub record Grows (old new : List ℕ) : Type 0 where
  pub each : (i : ℕ) → IsIn (slice_index old i) (slice_index new i)
