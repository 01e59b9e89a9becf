-- How many units a disk has that holds a store.
use Rattle.std.specs.Prelude.{ℕ, ◌^◌}

abbrev pub least_units : ℕ
least_units = 64

abbrev pub most_units : ℕ
most_units = 2 ^ 31
