-- A list of numbers as bytes: a count, skip entries, metablocks of packed blocks, and a tail.
use Rattle.std.specs.Prelude.{◌≡◌, ◌+◌, ◌*◌, ◌-◌, ◌/◌, ◌%◌, ◌^◌, ◌<◌, ◌≤◌, ◌∷◌, ◌++◌}
use Rattle.std.specs.Prelude.{ℕ, List, [], length, take, drop, slice_index, zero, suc}
use Rattle.std.specs.Simd.Lanes.{zip2}
use Rattle.pk_lanes.specs.Packed.{Packed}
use Rattle.pk_vbyte.specs.VariableByte.{vbyte}
use Rattle.pk_posting.specs.Limits.{longest_list}

-- n items from an index on
abbrev pub part : ℕ → ℕ → List ℕ → List ℕ
part at n xs = take n (drop at xs)

-- four bytes as a number, lowest first
unfoldable pub word : List ℕ → ℕ → ℕ
word bytes at = slice_index bytes at + 256 * slice_index bytes (at + 1)
    + 65536 * slice_index bytes (at + 2) + 16777216 * slice_index bytes (at + 3)

-- each number less the fourth before it; the four before the first are the seed
unfoldable pub differences : List ℕ → List ℕ → List ℕ
differences seed xs = zip2 (λ x y. x - y) xs (seed ++ xs)

-- no fewer than b bits hold each of 128 numbers
abbrev pub NeedsBits : ℕ → List ℕ → Type 0
NeedsBits b xs = (a : ℕ) → ((i : ℕ) → i < 128 → slice_index xs i < 2 ^ a) → b ≤ a

-- the 128 numbers xs stand at one place of the bytes, packed at the bit length of their greatest
-- difference
pub record Block (bytes : List ℕ) (at b : ℕ) (seed xs : List ℕ) : Type 0 where
  pub packed : Packed (part at (16 * b) bytes) b (differences seed xs)
  pub least : NeedsBits b (differences seed xs)

-- the 128 numbers rise, from the seed's last on
pub record Rises (seed xs : List ℕ) : Type 0 where
  pub step : (i : ℕ) → i < 128 → slice_index (seed ++ xs) (3 + i) < slice_index xs i

-- a block at one place that is right by itself: it lies within the bytes, and its numbers rise
pub record IsRightBlock (bytes : List ℕ) (at b : ℕ) (seed xs : List ℕ) : Type 0 where
  pub small : b ≤ 32
  pub room : at + 16 * b ≤ length bytes
  pub long : length xs ≡ 128
  pub below : (i : ℕ) → i < 128 → slice_index xs i < 2 ^ 32
  pub rises : Rises seed xs
  pub block : Block bytes at b seed xs

-- block k of a list, and the four numbers before it
abbrev pub block : ℕ → List ℕ → List ℕ
block k xs = part (128 * k) 128 xs

abbrev pub seed : ℕ → List ℕ → List ℕ
seed k xs = part (128 * k) 4 (0 ∷ 0 ∷ 0 ∷ 0 ∷ xs)

-- with B blocks: where the first metablock begins, the offset in the entry k, the width of block k
abbrev pub base : ℕ → ℕ
base B = 4 + 20 * B

abbrev pub offset : List ℕ → ℕ → ℕ
offset bytes k = word bytes (4 + 20 * k)

abbrev pub width : List ℕ → ℕ → ℕ → ℕ
width bytes B k = slice_index bytes (base B + (offset bytes (16 * (k / 16)) - 16) + k % 16)

-- the numbers left, each by its difference from the one before
unfoldable pub tail_bytes : ℕ → List ℕ → List ℕ
tail_bytes before [] = []
tail_bytes before (x ∷ xs) = vbyte (x - before) ++ tail_bytes x xs

-- numbers that have a spelling
pub record IsPosting (xs : List ℕ) : Type 0 where
  pub rising : (i : ℕ) → i < length xs → slice_index (0 ∷ xs) i < slice_index xs i
  pub below : (i : ℕ) → i < length xs → slice_index xs i < 2 ^ 32
  pub short : length xs ≤ longest_list

-- the entry k and the block k, of B, are those of the list
pub record BlockOf (bytes : List ℕ) (B k : ℕ) (xs : List ℕ) : Type 0 where
  pub last : (c : ℕ) → c < 4 → word bytes (8 + 20 * k + 4 * c) ≡ slice_index xs (128 * k + 124 + c)
  pub small : width bytes B k ≤ 32
  pub block : Block bytes (base B + offset bytes k) (width bytes B k) (seed k xs) (block k xs)

-- the sum of the widths before k
unfoldable pub total : List ℕ → ℕ → ℕ → ℕ
total bytes B zero = 0
total bytes B (suc k) = total bytes B k + width bytes B k

-- where the tail begins
abbrev pub tail_place : List ℕ → ℕ → ℕ
tail_place bytes B = base B + 16 * ((B + 15) / 16) + 16 * total bytes B B

-- the bytes spell the list
pub record Spells (bytes xs : List ℕ) : Type 0 where
  pub posting : IsPosting xs
  pub count : word bytes 0 ≡ length xs
  pub offsets : (k : ℕ) → k < length xs / 128
      → offset bytes k ≡ 16 * (k / 16 + 1) + 16 * total bytes (length xs / 128) k
  pub blocks : (k : ℕ) → k < length xs / 128 → BlockOf bytes (length xs / 128) k xs
  pub padding : (k : ℕ) → length xs / 128 ≤ k → 16 * (k / 16) < length xs / 128
      → width bytes (length xs / 128) k ≡ 0
  pub whole : tail_place bytes (length xs / 128) ≤ length bytes
  pub tail : drop (tail_place bytes (length xs / 128)) bytes
      ≡ tail_bytes (slice_index (0 ∷ xs) (128 * (length xs / 128)))
      (drop (128 * (length xs / 128)) xs)
