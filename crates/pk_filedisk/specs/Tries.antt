-- How many transfers of a file were interrupted, and by what one of several calls is given up.
use Rattle.std.specs.Prelude.{◌≡◌, ◌⊎◌, ◌<◌, ◌≤◌, ◌+◌, ◌-◌, ℕ, min, Result, Ok, Err}
use Rattle.pk_disk.specs.Disk.{full_count}
use Rattle.pk_filedisk.specs.declared.raw.CallFault.{CallFault}
use Rattle.pk_filedisk.specs.declared.raw.CallFault.TheVariants.{Interrupted, Failed}

-- how many interruptions a transfer's answer adds
abbrev pub interruptions_by : CallFault → ℕ
interruptions_by Interrupted = 1
interruptions_by Failed = 0

abbrev pub interruptions : {T : Type 0} → Result T CallFault → ℕ
interruptions (Ok done) = 0
interruptions (Err fault) = interruptions_by fault

-- a count went up by so many at least, or to its greatest
abbrev pub HasRisenBy : ℕ → ℕ → ℕ → Type 0
HasRisenBy more before now = min (before + more) full_count ≤ now

-- A count goes up by so many, or to its greatest, and never falls.
pub record CountsUp (more before now : ℕ) : Type 0 where
  pub later : before ≤ now
  pub most : now ≤ before + more
  pub least : HasRisenBy more before now

-- A transfer of some bytes is given up: the system refused its last call alone; or none, and each
-- of 2^64 - 1 calls was interrupted or moved one of the bytes.
pub record IsGivenUp {F : Type 0} (refused interrupted : F → ℕ) (bytes : ℕ) (old new : F)
    : Type 0 where
  pub asked : 0 < bytes
  pub cause : (refused new ≡ refused old + 1) ⊎ ((refused new ≡ refused old)
      × HasRisenBy (full_count - bytes) (interrupted old) (interrupted new))
