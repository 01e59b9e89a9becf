-- How many calls of a shared file failed and how many were interrupted, and that a read fails by these.
use Rattle.std.specs.Prelude.{◌≡◌, ◌⊎◌, ◌≤◌, ◌+◌, ◌^◌, ◌==◌, Bool, true, false, ℕ, max, min}
use Rattle.std.specs.Prelude.{Result, Ok, Err, if◌then◌else◌}
use Rattle.pk_disk.specs.Disk.{full_count}
use Rattle.pk_filedisk.specs.declared.raw.CallFault.{CallFault}
use Rattle.pk_filedisk.specs.declared.raw.CallFault.TheVariants.{Interrupted, Failed}
use Rattle.pk_filedisk.specs.Raw.{refusals_by}
use Rattle.pk_snapshot.specs.declared.fault.SnapshotFault.{SnapshotFault}
use Rattle.pk_snapshot.specs.declared.fault.SnapshotFault.TheVariants.{TooSmall, NotAStore, Changed, Damaged, Memory, Disk}

-- a count of failures, after so many more: at its greatest it stays
abbrev pub count_after : ℕ → ℕ → ℕ
count_after before more = max before (min (before + more) full_count)

-- how many interruptions a call's answer adds
abbrev pub interruptions_by : CallFault → ℕ
interruptions_by Interrupted = 1
interruptions_by Failed = 0

abbrev pub interruptions : {T : Type 0} → Result T CallFault → ℕ
interruptions (Ok done) = 0
interruptions (Err fault) = interruptions_by fault

-- how many failures a read at once adds: one too where it gives another number of bytes than were
-- asked for
abbrev pub refusals_at_once : ℕ → Result ℕ CallFault → ℕ
refusals_at_once asked (Ok given) = if given == asked then 0 else 1
refusals_at_once asked (Err fault) = refusals_by fault

-- Calls of a file are told as one that failed, or as one that did not: it fails by its last call alone,
-- or where 2^64 - 1 calls each were interrupted or gave one of so many bytes.
pub record FailsByCalls {F : Type 0} (failed interrupted : F → ℕ) (bytes : ℕ) (has_failed : Bool)
    (old new : F) : Type 0 where
  pub answered : has_failed ≡ false → failed new ≡ failed old
  pub refused : has_failed ≡ true → (failed new ≡ count_after (failed old) 1)
      ⊎ ((failed new ≡ failed old) × (2 ^ 64 + interrupted old ≤ interrupted new + bytes + 1))
  pub later : interrupted old ≤ interrupted new

-- a refusal that says that a read failed
abbrev pub is_disk : SnapshotFault → Bool
is_disk TooSmall = false
is_disk NotAStore = false
is_disk Changed = false
is_disk Damaged = false
is_disk Memory = false
is_disk Disk = true

abbrev pub is_disk_err : {T : Type 0} → Result T SnapshotFault → Bool
is_disk_err (Ok done) = false
is_disk_err (Err why) = is_disk why
