-- How long and how deep a query may be.
use Rattle.std.specs.Prelude.{ℕ}

-- the most bytes of a query
abbrev pub max_bytes : ℕ
max_bytes = 4096

-- the most brackets that may be open at a token, and the most NOT that may stand in a row
abbrev pub max_depth : ℕ
max_depth = 64
