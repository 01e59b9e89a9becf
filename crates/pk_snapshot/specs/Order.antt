-- Extents in the order of their places, and which of them a range meets.
use Rattle.std.specs.Prelude.{◌≡◌, ◌<◌, ◌≤◌, ◌+◌, ℕ, List, All}
use Rattle.std.specs.List.Sorted.{IsNonDecreasingBy}
use Rattle.pk_disk.specs.declared.units.Extent.{Extent}
use Rattle.pk_disk.specs.Units.{start_of}
use Rattle.pk_manifest.specs.Evolves.{covers}

-- the position behind its last byte
abbrev pub stop_of : Extent → ℕ
stop_of e = start_of e + e.bytes

-- None of them starts before one in front of it does, and none stops before that does.
pub record IsRising (extents : List Extent) : Type 0 where
  pub starts : IsNonDecreasingBy start_of extents
  pub stops : IsNonDecreasingBy stop_of extents

-- it starts before the end of a range, and stops behind its start
abbrev pub MeetsRange : ℕ → ℕ → Extent → Type 0
MeetsRange at to e = (start_of e < to) × (at < stop_of e)

-- The two cover the same positions.
abbrev pub CoverAlike : List Extent → List Extent → Type 0
CoverAlike es fs = (p : ℕ) → covers es p ≡ covers fs p

-- Those of the extents that meet a range: each does, and they cover of it what all of them do.
pub record AreMet (at to : ℕ) (extents met : List Extent) : Type 0 where
  pub each : All (MeetsRange at to) met
  pub same : (p : ℕ) → at ≤ p → p < to → covers met p ≡ covers extents p
