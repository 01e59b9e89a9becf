-- Why no reader was opened.
use Rattle.std.specs.Prelude.{◌≡◌, ◌≤◌, ℕ, List, Some}
use Rattle.pk_manifest.specs.Evolves.{in_force}
use Rattle.pk_reader.specs.Faults.{opening_fault}
use Rattle.pk_reader.specs.Outdated.{OutdatedTimes, most_openings}
use Rattle.pk_snapshot.specs.declared.fault.SnapshotFault.{SnapshotFault}
use Rattle.pk_snapshot.specs.declared.fault.SnapshotFault.TheVariants as shown
use Rattle.pk_store.specs.declared.refused.OpenFault.{OpenFault}

-- WHY NO READER WAS OPENED: a file was not shown, as it was at the call or later, for the reason
-- that is told; that there is no store only where each opening was outdated.
pub record WasRefused {F : Type 0} (honest : Type 0) (content : F → List ℕ)
    (refuses : F → F → SnapshotFault → Type 0) (first : F) (fault : OpenFault) : Type 0 where
  pub before : F
  pub after : F
  pub why : SnapshotFault
  pub later : honest → in_force (content first) ≤ in_force (content before)
  pub refused : refuses before after why
  pub told : opening_fault why ≡ Some fault
  pub often : honest → why ≡ shown.NotAStore
      → OutdatedTimes (λ bytes. Unit {0}) most_openings (content first) (content after)
