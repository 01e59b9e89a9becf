-- Why what lies in a source is not read into memory, and how failures are counted then.
use Rattle.std.specs.Prelude.{◌≡◌, ◌≤◌, ℕ, Result, OnOk, IsErrOf}
use Rattle.pk_posting.specs.declared.fault.ReadFault.{ReadFault}
use Rattle.pk_posting.specs.declared.fault.ReadFault.TheVariants.{Damaged, Disk, Memory}
use Rattle.pk_posting.specs.declared.source.SourceFault.{SourceFault}
use Rattle.pk_posting.specs.declared.source.SourceFault.TheVariants as source
use Rattle.pk_posting.specs.Source.{Rose}

-- what a fault of a source means to a reader
abbrev pub read_of : SourceFault → ReadFault
read_of source.Damaged = Damaged
read_of source.Disk = Disk

-- Disk is answered exactly where the count of failures rose; with any other answer it is as before.
pub record CountsReads {T : Type 0} (before now : ℕ) (result : Result T ReadFault) : Type 0 where
  pub later : before ≤ now
  pub ok : OnOk result (now ≡ before)
  pub damaged : IsErrOf result Damaged → now ≡ before
  pub memory : IsErrOf result Memory → now ≡ before
  pub disk : IsErrOf result Disk → Rose before now
