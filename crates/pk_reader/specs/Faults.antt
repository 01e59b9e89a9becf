-- Why there is nothing to be read, by why a file was not shown, and why it was not, by why no store
-- was opened over what is shown.
use Rattle.std.specs.Prelude.{Option, Some, None}
use Rattle.pk_snapshot.specs.declared.fault.SnapshotFault.{SnapshotFault}
use Rattle.pk_snapshot.specs.declared.fault.SnapshotFault.TheVariants as shown
use Rattle.pk_store.specs.declared.refused.OpenFault.{OpenFault}
use Rattle.pk_store.specs.declared.refused.OpenFault.TheVariants as opened

-- none where the file may be opened again at once
abbrev pub lasting_fault : SnapshotFault → Option OpenFault
lasting_fault shown.TooSmall = Some opened.TooSmall
lasting_fault shown.NotAStore = None
lasting_fault shown.Damaged = Some opened.Damaged
lasting_fault shown.Memory = Some opened.Memory
lasting_fault shown.Disk = Some opened.Disk
lasting_fault shown.Changed = None

-- none where it may be opened again later
abbrev pub opening_fault : SnapshotFault → Option OpenFault
opening_fault shown.NotAStore = Some opened.NotAStore
opening_fault why = lasting_fault why

abbrev pub showing_fault : OpenFault → SnapshotFault
showing_fault opened.TooSmall = shown.TooSmall
showing_fault opened.NotAStore = shown.NotAStore
showing_fault opened.Damaged = shown.Damaged
showing_fault opened.Disk = shown.Disk
showing_fault opened.Memory = shown.Memory
