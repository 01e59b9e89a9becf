-- A body that was found behind a gate.
use Rattle.std.specs.Prelude.{◌≡◌, ◌<◌, ◌≤◌, true, ℕ, List}
use Rattle.pk_disk.specs.Sizes.{least_units}
use Rattle.pk_manifest.specs.declared.half.Half.{Half}
use Rattle.pk_manifest.specs.declared.half.Half.TheVariants.{A, B}
use Rattle.pk_snapshot.specs.declared.fault.SnapshotFault.{SnapshotFault}
use Rattle.pk_snapshot.specs.declared.fault.SnapshotFault.TheVariants.{TooSmall, NotAStore, Changed, Damaged, Memory, Disk}
use Rattle.pk_disk.specs.declared.units.Extent.{Extent}
use Rattle.pk_manifest.specs.Current.{units_of_disk}
use Rattle.pk_manifest.specs.Evolves.{in_force}
use Rattle.pk_manifest.specs.Fields.{is_placed, table_at}
use Rattle.pk_manifest.specs.Said.{units_said_in}
use Rattle.pk_manifest.specs.Spelling.{Body}
use Rattle.pk_manifest.specs.Found.{IsFound}
use Rattle.pk_snapshot.specs.Shared.{SawShut}
use Rattle.pk_snapshot.specs.Shown.{IsBegun}

-- A body says so many units, which a store may have in a file of no more than most, and its table is
-- said to lie here, where it may.
pub record SaysPlace (most : ℕ) (body : List ℕ) (units : ℕ) (table : Extent) : Type 0 where
  pub says : units_said_in body ≡ units
  pub least : least_units ≤ units
  pub within : units ≤ most
  pub placed : is_placed units body ≡ true
  pub table_is : table ≡ table_at body

-- A gate is open, over a generation no older than that in force was, and no sound body stands behind
-- it.
pub record HasNoBody (old bytes : List ℕ) : Type 0 where
  pub half : Half
  pub generation : ℕ
  pub fresh : in_force old ≤ generation
  pub begun : IsBegun bytes half generation
  pub none : (body : Body) → IsFound bytes half generation body → ⊥

-- What a refusal says, of the bytes at the call, after it, and as they were marked. That another
-- body took the place, that the device failed or that there was no memory says nothing.
abbrev pub RefusedAs : List ℕ → List ℕ → List ℕ → SnapshotFault → Type 0
RefusedAs old new marked TooSmall = units_of_disk old < least_units
RefusedAs old new marked NotAStore = SawShut old new A × SawShut old new B
RefusedAs old new marked Changed = Unit {0}
RefusedAs old new marked Damaged = HasNoBody old marked
RefusedAs old new marked Memory = Unit {0}
RefusedAs old new marked Disk = Unit {0}

-- a refusal of a confirmation
abbrev pub IsOfConfirm : SnapshotFault → Type 0
IsOfConfirm TooSmall = ⊥
IsOfConfirm NotAStore = ⊥
IsOfConfirm Changed = Unit {0}
IsOfConfirm Damaged = ⊥
IsOfConfirm Memory = ⊥
IsOfConfirm Disk = Unit {0}

-- a refusal of a look at a body, and what Damaged says
abbrev pub IsOfBody : List ℕ → Half → ℕ → SnapshotFault → Type 0
IsOfBody bytes half generation TooSmall = ⊥
IsOfBody bytes half generation NotAStore = ⊥
IsOfBody bytes half generation Changed = Unit {0}
IsOfBody bytes half generation Damaged =
    IsBegun bytes half generation × ((body : Body) → IsFound bytes half generation body → ⊥)
IsOfBody bytes half generation Memory = Unit {0}
IsOfBody bytes half generation Disk = Unit {0}
