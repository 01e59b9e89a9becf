-- As many tables stand there as the counter says, which ends at the place.
use Rattle.std.proofs.Common.{◌≡◌, ◌≤◌, length, max}
use Rattle.pk_lookup.proofs.pivots.PivotTables.put.Given as goal

abbrev pub invariant-loop : goal.invariant-loop
invariant-loop l = (length l.self.tables.items ≡ l.counter)
    × (l.counter ≤ max (length l.initial.self.tables.items) l.place)
