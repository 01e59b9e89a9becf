-- Units of 512 bytes, and extents of them.
use Rattle.std.specs.Prelude.{◌≡◌, ℕ, ◌+◌, ◌*◌, ◌/◌, Bool, true, ◌&&◌, not, nat_le, nat_lt, List}
use Rattle.std.specs.Prelude.{[], ◌∷◌, take, drop, min}
use Rattle.std.specs.List.{list_any}
use Rattle.pk_disk.specs.declared.units.Extent.{Extent}

-- an extent as it stands on a disk, beside records of the same shape elsewhere
abbrev pub DiskExtent : Type 0
DiskExtent = Extent

-- the units that so many bytes take
abbrev pub units_for : ℕ → ℕ
units_for bytes = (bytes + 511) / 512

-- the units of a disk of so many bytes
abbrev pub units_in : ℕ → ℕ
units_in size = min (size / 512) 2147483648

-- the unit behind an extent
abbrev pub end_of : Extent → ℕ
end_of e = e.first + e.units

-- the position of its first byte
abbrev pub start_of : Extent → ℕ
start_of e = 512 * e.first

-- the bytes that it holds
abbrev pub extent_bytes : List ℕ → Extent → List ℕ
extent_bytes bytes e = take e.bytes (drop (start_of e) bytes)

-- its units follow from its bytes
abbrev pub IsFitted : Extent → Type 0
IsFitted e = e.units ≡ units_for e.bytes

-- two extents share a unit
abbrev pub overlap : Extent → Extent → Bool
overlap e f = nat_lt e.first (end_of f) && nat_lt f.first (end_of e)

-- the first unit that an extent may take: those before it are of gates and bodies
abbrev pub first_unit : ℕ
first_unit = 34

-- it has a unit, and lies within those that extents may take, of a disk of so many
abbrev pub lies_within : ℕ → Extent → Bool
lies_within units e = nat_le first_unit e.first && nat_lt 0 e.units && nat_le (end_of e) units

-- no two meet
abbrev pub apart : {X : Type 0} → (X → X → Bool) → List X → Bool
apart meets [] = true
apart meets (x ∷ xs) = not (list_any (meets x) xs) && apart meets xs
