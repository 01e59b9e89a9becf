-- How many tables of pivots are kept.
use Rattle.std.specs.Prelude.{◌≤◌, ℕ, length}
use Rattle.pk_lookup.specs.declared.pivots.PivotTables.{PivotTables}

-- how many at most
abbrev pub max_tables : ℕ
max_tables = 64

-- there are no more
abbrev pub AreFew : PivotTables → Type 0
AreFew p = length p.tables.items ≤ max_tables
