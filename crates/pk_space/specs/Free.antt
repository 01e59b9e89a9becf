-- Sets of free units, and the first run that fits.
use Rattle.std.specs.Prelude.{◌≡◌, ◌⊎◌, ℕ, ◌+◌, ◌≤◌, ◌<◌, Bool, true, ◌&&◌, not, nat_le, nat_lt}
use Rattle.std.specs.Prelude.{List, Result, Ok, Err}
use Rattle.std.specs.List.{list_any}
use Rattle.pk_disk.specs.Disk.{in_range}
use Rattle.pk_disk.specs.Units.{first_unit}
use Rattle.pk_disk.specs.declared.units.Extent.{Extent}
use Rattle.pk_space.specs.declared.runs.Full.{Full}

-- the unit lies in the extent
abbrev pub has_unit : ℕ → Extent → Bool
has_unit u e = in_range e.first e.units u

-- the unit may be taken, on a disk of that many units that names these extents
abbrev pub free_at : ℕ → List Extent → ℕ → Bool
free_at units extents u =
    nat_le first_unit u && nat_lt u units && not (list_any (has_unit u) extents)

-- the n units from first on are free
abbrev pub IsFreeRun : (ℕ → Bool) → ℕ → ℕ → Type 0
IsFreeRun free first n = (u : ℕ) → first ≤ u → u < first + n → free u ≡ true

-- the first run of n free units
pub record IsFirstFit (free : ℕ → Bool) (n first : ℕ) : Type 0 where
  pub run : IsFreeRun free first n
  pub earliest : (f : ℕ) → f < first → IsFreeRun free f n → ⊥

-- no run of n units is free, and the longest free one has this many
pub record IsFullAt (free : ℕ → Bool) (n largest : ℕ) : Type 0 where
  pub shorter : largest < n
  pub longest : (largest ≡ 0) ⊎ ((f : ℕ) × IsFreeRun free f largest)
  pub none_longer : (f m : ℕ) → largest < m → IsFreeRun free f m → ⊥

-- Either the first run of n units is answered, and free no more; or none is that long, the longest
-- is answered, and what is free stays so.
abbrev pub IsPlace : (ℕ → Bool) → (ℕ → Bool) → ℕ → Result ℕ Full → Type 0
IsPlace free free' n (Ok first) =
    IsFirstFit free n first × ((u : ℕ) → free' u ≡ (free u && not (in_range first n u)))
IsPlace free free' n (Err full) =
    (full.need ≡ n) × IsFullAt free n full.largest × ((u : ℕ) → free' u ≡ free u)
