-- The lines that a failure is told in.
use Rattle.std.specs.Prelude.{ℕ, List, codes}
use Rattle.pk_filedisk.specs.declared.fault.FileFault.{FileFault}
use Rattle.pk_filedisk.specs.declared.fault.FileFault.TheVariants as file
use Rattle.pk_model.specs.declared.commands.Refusal.{Refusal}
use Rattle.pk_model.specs.declared.commands.Refusal.TheVariants as refusal
use Rattle.pk_store.specs.declared.refused.CreateFault.{CreateFault}
use Rattle.pk_store.specs.declared.refused.CreateFault.TheVariants as creating
use Rattle.pk_store.specs.declared.refused.OpenFault.{OpenFault}
use Rattle.pk_store.specs.declared.refused.OpenFault.TheVariants as opening
use Rattle.pk_shell.specs.declared.ending.ShellFault.{ShellFault}
use Rattle.pk_shell.specs.declared.ending.ShellFault.TheVariants as session

-- of a file that is no disk
abbrev pub file_words : FileFault → List ℕ
file_words file.Exists = codes "pk_find: exists\n"
file_words file.Missing = codes "pk_find: missing\n"
file_words file.BadLength = codes "pk_find: bad length\n"
file_words file.InUse = codes "pk_find: in use\n"
file_words file.Disk = codes "pk_find: disk\n"

-- of a disk on which no store was made
abbrev pub creating_words : CreateFault → List ℕ
creating_words creating.TooSmall = codes "pk_find: too small\n"
creating_words creating.AlreadyAStore = codes "pk_find: already a store\n"
creating_words creating.Disk = codes "pk_find: disk\n"
creating_words creating.Memory = codes "pk_find: memory\n"

-- of a disk on which none was opened
abbrev pub opening_words : OpenFault → List ℕ
opening_words opening.TooSmall = codes "pk_find: too small\n"
opening_words opening.NotAStore = codes "pk_find: not a store\n"
opening_words opening.Damaged = codes "pk_find: damaged\n"
opening_words opening.Disk = codes "pk_find: disk\n"
opening_words opening.Memory = codes "pk_find: memory\n"

-- of a check that was refused: a store that was just opened needn't be opened again, so that what is
-- left is the device's
abbrev pub checking_words : Refusal → List ℕ
checking_words refusal.Damaged = codes "pk_find: damaged\n"
checking_words refusal.Memory = codes "pk_find: memory\n"
checking_words why = codes "pk_find: disk\n"

-- of a session that is broken off
abbrev pub session_words : ShellFault → List ℕ
session_words session.Input = codes "pk_find: input\n"
session_words session.Output = codes "pk_find: output\n"
session_words session.TooManyReads = codes "pk_find: too many reads\n"
session_words session.Memory = codes "pk_find: memory\n"

-- of a word that is not text, of which there is no reason more
abbrev pub not_text_words : List ℕ
not_text_words = codes "error: an argument is not text\n"

-- of a disk of which no store could be shown, since a read failed
abbrev pub disk_words : List ℕ
disk_words = codes "pk_find: disk\n"

-- of want of memory, and of an output that could not be written
abbrev pub memory_words : List ℕ
memory_words = codes "pk_find: memory\n"

abbrev pub output_words : List ℕ
output_words = codes "pk_find: output\n"
