-- A file that was not locked is left by a making and by an opening, with a fault of either.
use Rattle.std.proofs.Common.{◌≡◌, true≢false, sym}
use Rattle.std.proofs.lemmas.Option.{none-some}
use Rattle.std.specs.Prelude.{List, ℕ, Option, Some, None, IfSome, IsSome}
use Rattle.pk_filedisk.specs.declared.fault.FileFault.{FileFault}
use Rattle.pk_filedisk.specs.declared.fault.FileFault.TheVariants.{Exists, Missing, BadLength, InUse, Disk}
use Rattle.pk_filedisk.specs.File.{IsOfCreation, IsOfLock, IsOfMake, IsOfOpening}
use Rattle.pk_filedisk.specs.Found.{IsLeftByMaking, IsLeftByOpening}

pub fault_of_making : (why : FileFault) → IsOfLock why → IsOfMake why
fault_of_making Exists is = elim is [ ]
fault_of_making Missing is = elim is [ ]
fault_of_making BadLength is = elim is [ ]
fault_of_making InUse is = is
fault_of_making Disk is = is

-- and so is one that was not even made
pub fault_of_creation : (why : FileFault) → IsOfCreation why → IsOfMake why
fault_of_creation Exists is = is
fault_of_creation Missing is = elim is [ ]
fault_of_creation BadLength is = elim is [ ]
fault_of_creation InUse is = elim is [ ]
fault_of_creation Disk is = is

pub nothing_made : {F : Type 0} → (made : F → Type 0) (why : FileFault) (left : Option F)
    → IsOfCreation why → left ≡ None → IsLeftByMaking made why left
nothing_made made Exists None is none = is
nothing_made made Exists (Some file) is none = absurd (none-some file (sym none))
nothing_made made Missing left is none = elim is [ ]
nothing_made made BadLength left is none = elim is [ ]
nothing_made made InUse left is none = elim is [ ]
nothing_made made Disk None is none = is
nothing_made made Disk (Some file) is none = absurd (none-some file (sym none))

pub fault_of_opening : (why : FileFault) → IsOfLock why → IsOfOpening why
fault_of_opening Exists is = elim is [ ]
fault_of_opening Missing is = elim is [ ]
fault_of_opening BadLength is = elim is [ ]
fault_of_opening InUse is = is
fault_of_opening Disk is = is

pub left_by_making : {F : Type 0} → (made : F → Type 0) (why : FileFault) (left : Option F)
    → IsOfLock why → IsSome left → IfSome left made → IsLeftByMaking made why left
left_by_making made Exists left is held such = elim is [ ]
left_by_making made Missing left is held such = elim is [ ]
left_by_making made BadLength left is held such = elim is [ ]
left_by_making made InUse None is held such = absurd (true≢false (sym held))
left_by_making made InUse (Some file) is held such = such
left_by_making made Disk None is held such = absurd (true≢false (sym held))
left_by_making made Disk (Some file) is held such = such

pub left_by_opening : {F : Type 0} → (content : F → List ℕ) (found : F → Type 0) (why : FileFault)
    (left : Option F) → IsOfLock why → IsSome left → IfSome left found
    → IsLeftByOpening content found why left
left_by_opening content found Exists left is held such = elim is [ ]
left_by_opening content found Missing left is held such = elim is [ ]
left_by_opening content found BadLength left is held such = elim is [ ]
left_by_opening content found InUse None is held such = absurd (true≢false (sym held))
left_by_opening content found InUse (Some file) is held such = such
left_by_opening content found Disk None is held such = absurd (true≢false (sym held))
left_by_opening content found Disk (Some file) is held such = such
