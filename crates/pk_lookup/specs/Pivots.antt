-- Tables of the pivots of dictionaries.
use Rattle.std.specs.Prelude.{◌≡◌, []}
use Rattle.pk_lookup.specs.declared.pivots.PivotTables.{PivotTables}

-- there is no table
abbrev pub HasNoTable : PivotTables → Type 0
HasNoTable p = p.tables.items ≡ []
