-- The marked numbers so far are written.
use Rattle.std.proofs.Common.{◌≡◌, ◌≤◌, take}
use Rattle.pk_union.specs.Union.{marked}
use Rattle.pk_union.proofs.union.write_marked.Given as goal

abbrev pub invariant-loop-i : goal.invariant-loop-i
invariant-loop-i l = record {
  behind : l.count ≤ l.i;
  written : take l.count l.out ≡ marked l.first (take l.i l.marks);
}
