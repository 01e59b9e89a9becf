-- How many units may be asked for.
use Rattle.std.specs.Prelude.{◌≤◌, ℕ}
use Rattle.pk_disk.specs.Sizes.{least_units, most_units}
use Rattle.pk_arguments.specs.declared.asked.Asked.{Asked}
use Rattle.pk_arguments.specs.declared.asked.Asked.TheVariants.{Check, Create, Grow, Read, Run}

-- as many units as a store may have
abbrev pub IsOfSize : ℕ → Type 0
IsOfSize units = (least_units ≤ units) × (units ≤ most_units)

-- a store to be made has such a size
abbrev pub HasSize : Asked → Type 0
HasSize (Create path units) = IsOfSize units
HasSize (Grow path units) = IsOfSize units
HasSize (Run path) = Unit {0}
HasSize (Read path) = Unit {0}
HasSize (Check path) = Unit {0}
