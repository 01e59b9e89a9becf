-- What is told where there is no store.
use Rattle.std.specs.Prelude.{Option, Some, None}
use Rattle.pk_model.specs.declared.commands.Refusal.{Refusal}
use Rattle.pk_model.specs.declared.commands.Refusal.TheVariants.{Memory, Damaged, Disk}
use Rattle.pk_snapshot.specs.declared.fault.SnapshotFault.{SnapshotFault}
use Rattle.pk_snapshot.specs.declared.fault.SnapshotFault.TheVariants as shown

-- nothing where another body took the place meanwhile, or both gates were seen shut
abbrev pub refusal_without : SnapshotFault → Option Refusal
refusal_without shown.Changed = None
refusal_without shown.NotAStore = None
refusal_without shown.Memory = Some Memory
refusal_without shown.Damaged = Some Damaged
refusal_without shown.TooSmall = Some Disk
refusal_without shown.Disk = Some Disk
