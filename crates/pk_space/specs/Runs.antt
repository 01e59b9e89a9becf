-- Free units as a list of runs.
use Rattle.std.specs.Prelude.{ℕ, ◌+◌, ◌-◌, Bool, true, false, ◌&&◌, ◌||◌, nat_le, nat_lt}
use Rattle.std.specs.Prelude.{if◌then◌else◌, max, List, [], ◌∷◌}
use Rattle.pk_disk.specs.Disk.{in_range}
use Rattle.pk_disk.specs.Units.{end_of}
use Rattle.pk_disk.specs.declared.units.Extent.{Extent}
use Rattle.pk_space.specs.declared.runs.Run.{Run}

-- the unit behind a run
abbrev pub run_end : Run → ℕ
run_end r = r.first + r.count

-- the unit is in one of the runs
abbrev pub is_in_run : List Run → ℕ → Bool
is_in_run [] u = false
is_in_run (r ∷ rs) u = in_range r.first r.count u || is_in_run rs u

-- runs from low on that rise, with a gap between each two, and end by high
abbrev pub are_spaced : ℕ → ℕ → List Run → Bool
are_spaced low high [] = true
are_spaced low high (r ∷ rs) =
    nat_le low r.first && nat_le (run_end r) high && are_spaced (run_end r + 1) high rs

-- the runs between extents that rise by their first units, from low on and up to units
abbrev pub gaps : ℕ → ℕ → List Extent → List Run
gaps low units [] =
    if nat_lt low units then record { first = low; count = units - low } ∷ [] else []
gaps low units (e ∷ es) =
    if nat_lt low e.first
    then record { first = low; count = e.first - low } ∷ gaps (max low (end_of e)) units es
    else gaps (max low (end_of e)) units es
