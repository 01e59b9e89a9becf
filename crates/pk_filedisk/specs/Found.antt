-- The files that a making and an opening of a disk leave in hand, be there a disk or none.
use Rattle.std.specs.Prelude.{◌≡◌, ℕ, Bool, IsTrue, List, length, Option, Some, None, Result, Ok, Err}
use Rattle.pk_filedisk.specs.File.{IsDiskLength}
use Rattle.pk_filedisk.specs.declared.fault.FileFault.{FileFault}
use Rattle.pk_filedisk.specs.declared.fault.FileFault.TheVariants.{Exists, Missing, BadLength, InUse, Disk}
use Rattle.pk_filedisk.specs.declared.fault.NotADisk.{NotADisk}

-- how many files a system gave
abbrev pub files_in : {T E : Type 0} → Result T E → ℕ
files_in (Ok file) = 1
files_in (Err fault) = 0

-- how many are in hand after a making or an opening of a disk
abbrev pub files_held : {F : Type 0} → Option F → ℕ
files_held (Some file) = 1
files_held None = 0

abbrev pub files_left : {D F : Type 0} → Result D (NotADisk F) → ℕ
files_left (Ok disk) = 1
files_left (Err none) = files_held none.file

-- A file that was opened at a path, with bytes that the file there may have.
pub record IsFound {F : Type 0} (content path : F → List ℕ) (may_hold : List ℕ → Type 0)
    (at : List ℕ) (file : F) : Type 0 where
  pub bytes : may_hold (content file)
  pub place : path file ≡ at

-- A file that was made at a path where nothing was.
pub record IsNewAt {F : Type 0} (is_new : F → Bool) (path : F → List ℕ) (at : List ℕ) (file : F)
    : Type 0 where
  pub made : IsTrue (is_new file)
  pub place : path file ≡ at

-- What an opening that gives no disk leaves, by its fault: of a bad length the file, as it was
-- found, and its length is none of a disk; of a path with nothing there no file; of one in use it.
abbrev pub IsLeftByOpening : {F : Type 0} → (F → List ℕ) → (F → Type 0) → FileFault → Option F → Type 0
IsLeftByOpening content found Exists left = ⊥
IsLeftByOpening content found Missing None = Unit {0}
IsLeftByOpening content found Missing (Some file) = ⊥
IsLeftByOpening content found BadLength None = ⊥
IsLeftByOpening content found BadLength (Some file) =
    found file × (IsDiskLength (length (content file)) → ⊥)
IsLeftByOpening content found InUse None = ⊥
IsLeftByOpening content found InUse (Some file) = found file
IsLeftByOpening content found Disk None = Unit {0}
IsLeftByOpening content found Disk (Some file) = found file

-- What a making that gives no disk leaves: the file that it made, or none.
abbrev pub IsLeftByMaking : {F : Type 0} → (F → Type 0) → FileFault → Option F → Type 0
IsLeftByMaking made Exists None = Unit {0}
IsLeftByMaking made Exists (Some file) = ⊥
IsLeftByMaking made Missing left = ⊥
IsLeftByMaking made BadLength left = ⊥
IsLeftByMaking made InUse None = ⊥
IsLeftByMaking made InUse (Some file) = made file
IsLeftByMaking made Disk None = Unit {0}
IsLeftByMaking made Disk (Some file) = made file
