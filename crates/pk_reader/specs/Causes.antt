-- Why a reader tells that the disk failed.
use Rattle.std.specs.Prelude.{◌⊎◌, ◌<◌, ◌≤◌, ℕ, List, Result, Err}
use Rattle.pk_disk.specs.Sizes.{least_units}
use Rattle.pk_manifest.specs.Current.{units_of_disk}
use Rattle.pk_manifest.specs.Evolves.{in_force}
use Rattle.pk_model.specs.Steps.{Answer}
use Rattle.pk_model.specs.declared.commands.Refusal.{Refusal}
use Rattle.pk_model.specs.declared.commands.Refusal.TheVariants.{Disk}
use Rattle.pk_snapshot.specs.declared.fault.SnapshotFault.{SnapshotFault}
use Rattle.pk_snapshot.specs.declared.fault.SnapshotFault.TheVariants as shown

-- it tells that the disk failed, and then this holds
abbrev pub OnDisk : Result Answer Refusal → Type 0 → Type 0
OnDisk (Err Disk) P = P
OnDisk outcome P = Unit {0}

-- A call of the file failed or was interrupted, or the file had fewer units than a store has as it was
-- asked. All calls since the file was opened count.
abbrev pub HasFailed : List ℕ → ℕ → Type 0
HasFailed asked count = (0 < count) ⊎ (units_of_disk asked < least_units)

-- THAT THE DISK FAILED HAS A CAUSE, of one try
abbrev pub HasCause : List ℕ → ℕ → Result Answer Refusal → Type 0
HasCause asked count outcome = OnDisk outcome (HasFailed asked count)

-- one try failed, of bytes in which nothing older was in force
pub record FailsAfter (first : List ℕ) (count : ℕ) : Type 0 where
  pub asked : List ℕ
  pub later : in_force first ≤ in_force asked
  pub failed : HasFailed asked count

-- THE SAME OF A QUESTION: one try failed, or the reader gave up.
abbrev pub HasReason : List ℕ → ℕ → Type 0 → Result Answer Refusal → Type 0
HasReason first count GaveUp outcome = OnDisk outcome (FailsAfter first count ⊎ GaveUp)

-- the same of a file that was not shown
abbrev pub IsCausedBy : List ℕ → ℕ → SnapshotFault → Type 0
IsCausedBy asked count shown.TooSmall = units_of_disk asked < least_units
IsCausedBy asked count shown.NotAStore = Unit {0}
IsCausedBy asked count shown.Changed = Unit {0}
IsCausedBy asked count shown.Damaged = Unit {0}
IsCausedBy asked count shown.Memory = Unit {0}
IsCausedBy asked count shown.Disk = 0 < count
