-- Which calls of a fault disk fail, and what reaches the disk below.
use Rattle.std.specs.Prelude.{◌≡◌, ◌==◌, ◌⊎◌, ◌≤◌, ◌<◌, ◌+◌, ◌/◌, Bool, true, false, nat_le, min}
use Rattle.std.specs.Prelude.{ℕ, List, length, take, Result, Ok, Err, IsErr}
use Rattle.pk_disk.specs.declared.disk.Disk.{Ghosts}
use Rattle.pk_disk.specs.declared.disk.DiskFault.{DiskFault}
use Rattle.pk_disk.specs.declared.plan.Plan.{Plan}
use Rattle.pk_disk.specs.declared.plan.Plan.TheVariants.{From, Once, Never}
use Rattle.pk_disk.specs.Disk.{IsImage, IsPartWritten, Rose, full_count, opened, written}
use Rattle.pk_disk.specs.Since.{OnlyNew}

-- whether the kth call from here on fails, the next one being the first
abbrev pub fails_at : Plan → ℕ → Bool
fails_at (From first) k = nat_le first k
fails_at (Once only) k = only == k
fails_at Never k = false

-- A call went by the plan: it fails where the plan says so; where the plan lets it pass and its
-- count isn't full, only because the disk below failed; and the plan goes on with the next call.
pub record FollowsPlan {T : Type 0} (plan plan' : Plan) (count below below' : ℕ)
    (result : Result T DiskFault) : Type 0 where
  pub planned : fails_at plan 1 ≡ true → IsErr result
  pub passed : fails_at plan 1 ≡ false → count < full_count → IsErr result → Rose below below'
  pub later : (k : ℕ) → 1 ≤ k → fails_at plan' k ≡ fails_at plan (k + 1)

-- the bytes read so far, of which a count of 64 bits stays at its greatest
abbrev pub bytes_after : {T : Type 0} → ℕ → ℕ → Result T DiskFault → ℕ
bytes_after before n (Ok v) = min (before + n) full_count
bytes_after before n (Err e) = before

-- the call fails by the plan, or because the count of failures is full
abbrev pub IsHeld : Plan → ℕ → Type 0
IsHeld plan count = (fails_at plan 1 ≡ true) ⊎ (count ≡ full_count)

-- the first half of the bytes, rounded up
abbrev pub first_half : List ℕ → List ℕ
first_half bytes = take ((length bytes + 1) / 2) bytes

-- A disk took these bytes at a place.
pub record TookAll {D : Type 0} (d : Ghosts D) (at : ℕ) (bytes : List ℕ) (old new : D)
    : Type 0 where
  pub bytes_are : d.content new ≡ written (d.content old) at bytes
  pub positions : d.is_open new ≡ opened (d.is_open old) at (length bytes)
  pub writes : d.failed_writes new ≡ d.failed_writes old

-- A disk was given these bytes at a place, and its write failed.
pub record TookPart {D : Type 0} (d : Ghosts D) (at : ℕ) (bytes : List ℕ) (old new : D)
    : Type 0 where
  pub part : IsPartWritten (d.content old) (d.is_open old) at (length bytes)
      (d.content new) (d.is_open new)
  pub writes : Rose (d.failed_writes old) (d.failed_writes new)

-- A disk was given just these bytes at a place, took them or failed, and in the course of that had
-- no position open but theirs and those from before.
pub record IsGiven {D : Type 0} (d : Ghosts D) (at : ℕ) (bytes : List ℕ) (old new : D)
    : Type 0 where
  pub outcome : TookAll d at bytes old new ⊎ TookPart d at bytes old new
  pub images : OnlyNew d.moment d.images_since old new
      (IsImage (d.content old) (opened (d.is_open old) at (length bytes)))
