-- A disk's bytes and open positions: what a call does to them, and what a crash may leave.
use Rattle.std.specs.Prelude.{◌≡◌, ◌⊎◌, ◌<◌, ◌≤◌, ◌+◌, ◌-◌, ◌^◌, ◌++◌, ◌&&◌, ◌||◌, Bool, true}
use Rattle.std.specs.Prelude.{false, nat_lt, nat_le, ℕ, List, length, take, drop, slice_index}
use Rattle.std.specs.Prelude.{Result, OnOk, OnErr}
use Rattle.pk_disk.specs.declared.disk.DiskFault.{DiskFault}

-- p is one of the n positions from at on
abbrev pub in_range : ℕ → ℕ → ℕ → Bool
in_range at n p = nat_le at p && nat_lt p (at + n)

-- a position of either of two sets
abbrev pub also : (ℕ → Bool) → (ℕ → Bool) → ℕ → Bool
also a b p = a p || b p

-- the open positions, and the n from at on
abbrev pub opened : (ℕ → Bool) → ℕ → ℕ → ℕ → Bool
opened is_open at n p = is_open p || in_range at n p

-- no position
abbrev pub nowhere : ℕ → Bool
nowhere p = false

-- An image is what a crash may leave: as long as the bytes, and the same wherever nothing is open.
pub record IsImage (bytes : List ℕ) (is_open : ℕ → Bool) (image : List ℕ) : Type 0 where
  pub size : length image ≡ length bytes
  pub same : (p : ℕ) → is_open p ≡ false → slice_index image p ≡ slice_index bytes p

-- the bytes, with new ones from at on
abbrev pub written : List ℕ → ℕ → List ℕ → List ℕ
written bytes at new = take at bytes ++ new ++ drop (at + length new) bytes

-- A write of n bytes from at on that failed: any bytes in its range, of which a part may be open.
pub record IsPartWritten (bytes : List ℕ) (is_open : ℕ → Bool) (at n : ℕ)
    (bytes' : List ℕ) (is_open' : ℕ → Bool) : Type 0 where
  pub size : length bytes' ≡ length bytes
  pub same : (p : ℕ) → in_range at n p ≡ false → slice_index bytes' p ≡ slice_index bytes p
  pub stays : (p : ℕ) → is_open p ≡ true → is_open' p ≡ true
  pub within : (p : ℕ) → opened is_open at n p ≡ false → is_open' p ≡ false

-- the greatest count of failures
abbrev pub full_count : ℕ
full_count = 2 ^ 64 - 1

-- a count of failures rose: it is greater, or it stands at its greatest
abbrev pub Rose : ℕ → ℕ → Type 0
Rose before now = (before < now) ⊎ (now ≡ full_count)

-- A call fails exactly where its count rises, and always once the count is full.
pub record IsCounted {T : Type 0} (before now : ℕ) (result : Result T DiskFault) : Type 0 where
  pub later : before ≤ now
  pub most : now ≤ full_count
  pub ok : OnOk result ((now ≡ before) × (now < full_count))
  pub err : OnErr result (Rose before now)

-- The frame of a write: an earlier image, but for the n positions from at on.
pub record IsImageBut (bytes : List ℕ) (is_open : ℕ → Bool) (at n : ℕ) (image : List ℕ)
    : Type 0 where
  pub earlier : List ℕ
  pub is_image : IsImage bytes is_open earlier
  pub size : length image ≡ length earlier
  pub same : (p : ℕ) → in_range at n p ≡ false → slice_index image p ≡ slice_index earlier p

-- The bytes and the open positions changed at the touched positions alone.
pub record IsChangedOnly (bytes : List ℕ) (is_open : ℕ → Bool) (touched : ℕ → Bool)
    (bytes' : List ℕ) (is_open' : ℕ → Bool) : Type 0 where
  pub size : length bytes' ≡ length bytes
  pub same : (p : ℕ) → touched p ≡ false → slice_index bytes' p ≡ slice_index bytes p
  pub shut : (p : ℕ) → touched p ≡ false → is_open p ≡ false → is_open' p ≡ false
