-- Why a store was not opened over what is shown of a file.
use Rattle.std.specs.Prelude.{◌⊎◌, ◌<◌, ◌≤◌, ℕ, List}
use Rattle.pk_disk.specs.Sizes.{least_units}
use Rattle.pk_manifest.specs.declared.half.Half.{Half}
use Rattle.pk_manifest.specs.declared.half.Half.TheVariants.{A, B}
use Rattle.pk_manifest.specs.Current.{units_of_disk}
use Rattle.pk_manifest.specs.Evolves.{in_force}
use Rattle.pk_snapshot.specs.Changed.{SawChange}
use Rattle.pk_snapshot.specs.Found.{HasNoBody}
use Rattle.pk_snapshot.specs.Shared.{SawOther, SawShut}
use Rattle.pk_snapshot.specs.Shown.{IsBegun, ShowsBody}
use Rattle.pk_snapshot.specs.declared.fault.SnapshotFault.{SnapshotFault}
use Rattle.pk_snapshot.specs.declared.fault.SnapshotFault.TheVariants as shown
use Rattle.pk_store.specs.Opening.{IsUnsound}

-- The gate of a body was open that is no older than what was in force, and then another body was seen
-- in its half, or its gate as shut.
pub record IsGone (old marked new : List ℕ) : Type 0 where
  pub half : Half
  pub generation : ℕ
  pub fresh : in_force old ≤ generation
  pub begun : IsBegun marked half generation
  pub other : SawOther marked new half generation

-- A body is shown that is no older than what was in force, and it opens as no store.
pub record ShowsUnsound (old marked : List ℕ) : Type 0 where
  pub half : Half
  pub generation : ℕ
  pub fresh : in_force old ≤ generation
  pub content : List ℕ
  pub shows : ShowsBody marked content half generation
  pub unsound : IsUnsound content

-- What a refusal says, of the bytes at the call, after it, and as they were marked. That the device
-- failed or that there was no memory says nothing of them.
abbrev pub RefusedOpening : List ℕ → List ℕ → List ℕ → SnapshotFault → Type 0
RefusedOpening old new marked shown.TooSmall = units_of_disk old < least_units
RefusedOpening old new marked shown.NotAStore = SawShut old new A × SawShut old new B
RefusedOpening old new marked shown.Changed = SawChange old new ⊎ ∥ IsGone old marked new ∥₁
RefusedOpening old new marked shown.Damaged = HasNoBody old marked ⊎ ShowsUnsound old marked
RefusedOpening old new marked shown.Memory = Unit {0}
RefusedOpening old new marked shown.Disk = Unit {0}
