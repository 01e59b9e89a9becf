-- How many calls the system refused, by the fault of a file that was not locked.
use Rattle.std.specs.Prelude.{ℕ}
use Rattle.pk_filedisk.specs.declared.fault.FileFault.{FileFault}
use Rattle.pk_filedisk.specs.declared.fault.FileFault.TheVariants.{Exists, Missing, BadLength, InUse, Disk}

-- one where the lock was refused, and none where another opening holds it
abbrev pub refused_by : FileFault → ℕ
refused_by Exists = 0
refused_by Missing = 0
refused_by BadLength = 0
refused_by InUse = 0
refused_by Disk = 1
