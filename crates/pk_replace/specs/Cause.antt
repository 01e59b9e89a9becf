-- What stopped a writer or a replacement, by the disk's counts of failures.
use Rattle.std.specs.Prelude.{◌≡◌, Result, Ok, Err}
use Rattle.pk_disk.specs.declared.disk.Disk.{Ghosts}
use Rattle.pk_disk.specs.Disk.{Rose}
use Rattle.pk_replace.specs.declared.stream.StreamFault.{StreamFault}
use Rattle.pk_replace.specs.declared.stream.StreamFault.TheVariants.{Read, Write, Damaged}

-- no read failed, and no write or sync
pub record NoneFailed {D : Type 0} (d : Ghosts D) (old new : D) : Type 0 where
  pub reads : d.failed_reads new ≡ d.failed_reads old
  pub writes : d.failed_writes new ≡ d.failed_writes old

-- a read failed, and no write or sync
pub record ReadFailed {D : Type 0} (d : Ghosts D) (old new : D) : Type 0 where
  pub reads : Rose (d.failed_reads old) (d.failed_reads new)
  pub writes : d.failed_writes new ≡ d.failed_writes old

-- a write or a sync failed, and no read
pub record WriteFailed {D : Type 0} (d : Ghosts D) (old new : D) : Type 0 where
  pub reads : d.failed_reads new ≡ d.failed_reads old
  pub writes : Rose (d.failed_writes old) (d.failed_writes new)

-- The answer tells what failed: damage is met where nothing did.
abbrev pub IsCause : {D T : Type 0} → Ghosts D → D → D → Result T StreamFault → Type 0
IsCause d old new (Ok v) = NoneFailed d old new
IsCause d old new (Err Read) = ReadFailed d old new
IsCause d old new (Err Write) = WriteFailed d old new
IsCause d old new (Err Damaged) = NoneFailed d old new

-- where it was stopped, but for a write or a sync, this holds
abbrev pub OnKept : {T : Type 0} → Result T StreamFault → Type 0 → Type 0
OnKept (Ok v) P = Unit {0}
OnKept (Err Read) P = P
OnKept (Err Write) P = Unit {0}
OnKept (Err Damaged) P = P

-- no damage was met
abbrev pub IsUndamaged : {T : Type 0} → Result T StreamFault → Type 0
IsUndamaged (Ok v) = Unit {0}
IsUndamaged (Err Read) = Unit {0}
IsUndamaged (Err Write) = Unit {0}
IsUndamaged (Err Damaged) = ⊥

-- a write alone may have stopped it
abbrev pub StopsAtWrites : {T : Type 0} → Result T StreamFault → Type 0
StopsAtWrites (Ok v) = Unit {0}
StopsAtWrites (Err Read) = ⊥
StopsAtWrites (Err Write) = Unit {0}
StopsAtWrites (Err Damaged) = ⊥

-- where a read stopped it, this holds
abbrev pub OnRead : {T : Type 0} → Result T StreamFault → Type 0 → Type 0
OnRead (Ok v) P = Unit {0}
OnRead (Err Read) P = P
OnRead (Err Write) P = Unit {0}
OnRead (Err Damaged) P = Unit {0}
