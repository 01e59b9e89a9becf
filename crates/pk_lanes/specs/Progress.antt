-- How far a kernel has come: what holds of the first k vectors of four numbers.
use Rattle.std.specs.Prelude.{◌≡◌, ℕ, ◌+◌, ◌*◌, ◌/◌, ◌%◌, ◌^◌, ◌<◌, ◌≤◌, ◌-◌, ◌++◌}
use Rattle.std.specs.Prelude.{List, length, slice_index}
use Rattle.pk_lanes.specs.Packed.{bit, lane_bit}

-- the first k vectors of xs are unpacked from the bytes
pub record Unpacked (bytes : List ℕ) (b : ℕ) (k : ℕ) (xs : List ℕ) : Type 0 where
  pub below : (i : ℕ) → i < 4 * k → slice_index xs i < 2 ^ b
  pub bits : (i j : ℕ) → i < 4 * k → j < b
      → bit (slice_index xs i) j ≡ lane_bit bytes (i % 4) (i / 4 * b + j)

-- the first k vectors of xs are packed: what fills whole words stands in out, what is left in word
pub record Filling (xs : List ℕ) (b : ℕ) (k : ℕ) (out : List ℕ) (word : List ℕ) : Type 0 where
  pub done : (i j : ℕ) → i < 4 * k → j < b → i / 4 * b + j < 32 * (k * b / 32)
      → lane_bit out (i % 4) (i / 4 * b + j) ≡ bit (slice_index xs i) j
  pub rest : (i j : ℕ) → i < 4 * k → j < b → 32 * (k * b / 32) ≤ i / 4 * b + j
      → bit (slice_index word (i % 4)) (i / 4 * b + j - 32 * (k * b / 32))
      ≡ bit (slice_index xs i) j
  pub short : (c q : ℕ) → c < 4 → k * b % 32 ≤ q → q < 32 → bit (slice_index word c) q ≡ 0

-- the first k vectors of xs have the differences ds, and last is the vector before the next one
pub record RestoresTo (k : ℕ) (seed ds xs : List ℕ) (last : List ℕ) : Type 0 where
  pub step : (i : ℕ) → i < 4 * k
      → slice_index xs i ≡ (slice_index ds i + slice_index (seed ++ xs) i) % 2 ^ 32
  pub carried : (c : ℕ) → c < 4 → slice_index last c ≡ slice_index (seed ++ xs) (4 * k + c)

-- the first k vectors of xs have the differences that are packed in the bytes
pub record Summed (bytes : List ℕ) (b : ℕ) (k : ℕ) (seed xs : List ℕ) (last : List ℕ) : Type 0 where
  pub differences : List ℕ
  pub count : length differences ≡ 128
  pub unpacked : Unpacked bytes b k differences
  pub restored : RestoresTo k seed differences xs last

-- the lanes fit into just the widths that the first k vectors fit into
pub record Covers (k : ℕ) (xs all : List ℕ) : Type 0 where
  pub fits : (b : ℕ) → ((c : ℕ) → c < 4 → slice_index all c < 2 ^ b)
      → (i : ℕ) → i < 4 * k → slice_index xs i < 2 ^ b
  pub least : (b : ℕ) → ((i : ℕ) → i < 4 * k → slice_index xs i < 2 ^ b)
      → (c : ℕ) → c < 4 → slice_index all c < 2 ^ b
