-- A block of 128 numbers at one width, packed in four lanes.
use Rattle.std.specs.Prelude.{◌≡◌, ℕ, ◌+◌, ◌*◌, ◌/◌, ◌%◌, ◌^◌, ◌<◌, List, length, slice_index}

-- bit j of a number, the lowest being bit 0
abbrev pub bit : ℕ → ℕ → ℕ
bit n j = n / 2 ^ j % 2

-- bit p of lane c: bit p mod 32 of its word p div 32, a word being four bytes, the lowest first
unfoldable pub lane_bit : List ℕ → ℕ → ℕ → ℕ
lane_bit bytes c p = bit (slice_index bytes (16 * (p / 32) + 4 * c + p % 32 / 8)) (p % 8)

-- each of the 128 numbers has at most b bits
abbrev pub FitIn : List ℕ → ℕ → Type 0
FitIn xs b = (i : ℕ) → i < 128 → slice_index xs i < 2 ^ b

-- the bytes are the 128 numbers xs, each in b bits: number i stands in lane i mod 4,
-- from bit (i div 4) * b of that lane on
pub record Packed (bytes : List ℕ) (b : ℕ) (xs : List ℕ) : Type 0 where
  pub size : length bytes ≡ 16 * b
  pub count : length xs ≡ 128
  pub below : (i : ℕ) → i < 128 → slice_index xs i < 2 ^ b
  pub bits : (i j : ℕ) → i < 128 → j < b
      → bit (slice_index xs i) j ≡ lane_bit bytes (i % 4) (i / 4 * b + j)
