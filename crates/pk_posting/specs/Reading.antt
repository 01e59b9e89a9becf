-- What reading has found at one block.
use Rattle.std.specs.Prelude.{◌≡◌, ◌+◌, ◌*◌, ◌-◌, ◌/◌, ◌%◌, ◌^◌, ◌<◌, ◌≤◌, ◌∷◌}
use Rattle.std.specs.Prelude.{ℕ, List, length, take, slice_index}
use Rattle.pk_posting.specs.declared.decoding.DecodeFault.{DecodeFault}
use Rattle.pk_posting.specs.declared.decoding.DecodeFault.TheVariants.{Damaged, Memory}
use Rattle.pk_lanes.specs.Packed.{Packed}
use Rattle.pk_lanes.specs.Differences.{Restores}
use Rattle.pk_posting.specs.Posting.{part, word, IsRightBlock, BlockOf, Spells, base, offset, width, total, seed}
use Rattle.pk_posting.specs.Limits.{longest_list}

-- where block k begins, and the widths of its metablock
pub record Begun (bytes : List ℕ) (B k old_at old_widths at widths : ℕ) : Type 0 where
  pub room : at ≤ length bytes
  pub widths_room : widths + 16 ≤ length bytes
  pub first_at : k % 16 ≡ 0 → at ≡ old_at + 16
  pub first_widths : k % 16 ≡ 0 → widths ≡ old_at
  pub later_at : 0 < k % 16 → at ≡ old_at
  pub later_widths : 0 < k % 16 → widths ≡ old_widths
  pub zeros : k % 16 ≡ 0 → (j : ℕ) → j < 16 → B ≤ k + j → slice_index bytes (old_at + j) ≡ 0

-- the metablock that would begin here does not
pub record Breaks (bytes : List ℕ) (B k at : ℕ) : Type 0 where
  pub first : k % 16 ≡ 0
  pub broken : at + 16 ≤ length bytes
      → ((j : ℕ) → j < 16 → B ≤ k + j → slice_index bytes (at + j) ≡ 0) → ⊥

-- the packed bytes at one place restore the numbers xs
abbrev pub IsRestored : List ℕ → ℕ → ℕ → List ℕ → List ℕ → Type 0
IsRestored bytes at b before xs = (ds : List ℕ) × Packed (part at (16 * b) bytes) b ds × Restores before ds xs

-- the offset and the width of the block k are right, and its packed bytes restore the numbers xs
pub record IsTaken (bytes : List ℕ) (B k at widths : ℕ) (before xs : List ℕ) : Type 0 where
  pub offset : offset bytes k + base B ≡ at
  pub small : slice_index bytes (widths + k % 16) ≤ 32
  pub room : at + 16 * slice_index bytes (widths + k % 16) ≤ length bytes
  pub restored : IsRestored bytes at (slice_index bytes (widths + k % 16)) before xs

-- the entry and the block k give the numbers xs
pub record Gives (bytes : List ℕ) (B k at widths : ℕ) (before xs : List ℕ) : Type 0 where
  pub offset : offset bytes k + base B ≡ at
  pub last : (c : ℕ) → c < 4 → word bytes (8 + 20 * k + 4 * c) ≡ slice_index xs (124 + c)
  pub good : IsRightBlock bytes at (slice_index bytes (widths + k % 16)) before xs

-- the first k blocks were read
pub record ReadTo (bytes : List ℕ) (B k : ℕ) (out before : List ℕ) (at widths : ℕ) : Type 0 where
  pub long : length out ≡ 128 * k
  pub seed_is : before ≡ seed k out
  pub order : (i : ℕ) → i < 3 → slice_index before i ≤ slice_index before (i + 1)
  pub here : at ≡ base B + 16 * ((k + 15) / 16) + 16 * total bytes B k
  pub room : at ≤ length bytes
  pub widths_is : 0 < k % 16 → widths ≡ base B + (offset bytes (16 * (k / 16)) - 16)
  pub widths_room : 0 < k % 16 → widths + 16 ≤ length bytes
  pub offsets : (j : ℕ) → j < k → offset bytes j ≡ 16 * (j / 16 + 1) + 16 * total bytes B j
  pub blocks : (j : ℕ) → j < k → BlockOf bytes B j out
  pub padding : (j : ℕ) → B ≤ j → 16 * (j / 16) < k → width bytes B j ≡ 0
  pub rising : (i : ℕ) → i < 128 * k → slice_index (0 ∷ out) i < slice_index out i
  pub below : (i : ℕ) → i < 128 * k → slice_index out i < 2 ^ 32
  pub only : (xs : List ℕ) → Spells bytes xs → length xs / 128 ≡ B → take (128 * k) xs ≡ out

-- how many bytes spell so many numbers at least: a block's width is 3 or more
abbrev pub least_bytes : ℕ → ℕ
least_bytes count = 4 + 68 * (count / 128) + 16 * ((count / 128 + 15) / 16) + count % 128

-- the bytes have room for the numbers that they count
pub record HaveRoom (bytes : List ℕ) : Type 0 where
  pub most : word bytes 0 ≤ longest_list
  pub long : least_bytes (word bytes 0) ≤ length bytes

-- Damaged says that no list of B blocks is spelled
abbrev pub NotSpelled : List ℕ → ℕ → DecodeFault → Type 0
NotSpelled bytes B Damaged = (xs : List ℕ) → Spells bytes xs → length xs / 128 ≡ B → ⊥
NotSpelled bytes B Memory = Unit {0}
