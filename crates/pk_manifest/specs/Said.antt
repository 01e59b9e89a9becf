-- The units that the body in force says, on a disk of any length.
use Rattle.std.specs.Prelude.{ℕ, ◌&&◌, nat_le, List, take, drop, Option, Some, None, if◌then◌else◌}
use Rattle.std.specs.Int.{w32, from_le_bytes}
use Rattle.pk_disk.specs.Sizes.{least_units}
use Rattle.pk_manifest.specs.declared.half.Half.{Half}
use Rattle.pk_manifest.specs.Bodies.{body_of, half_in_force}

-- the number at place 16 of a body, whatever else stands there
unfoldable pub units_said_in : List ℕ → ℕ
units_said_in body = from_le_bytes w32 (take 4 (drop 16 body))

abbrev pub said_by : List ℕ → Option Half → Option ℕ
said_by bytes None = None
said_by bytes (Some half) = Some (units_said_in (body_of bytes half))

-- those that the body in force says, if a half is in force
abbrev pub said_units : List ℕ → Option ℕ
said_units bytes = said_by bytes (half_in_force bytes)

-- The units of the store on a disk of so many: what is said, where a store may have as many and the
-- disk does, else all.
abbrev pub store_units : ℕ → Option ℕ → ℕ
store_units all None = all
store_units all (Some said) = if nat_le least_units said && nat_le said all then said else all
