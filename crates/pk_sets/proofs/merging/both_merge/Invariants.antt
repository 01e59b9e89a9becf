-- What is written, and the intersection of what is left.
use Rattle.std.proofs.Common.{◌-◌, ◌≡◌, ◌+◌, ◌≤◌, length, take, drop, ◌++◌}
use Rattle.pk_sets.specs.Sets.{intersection}
use Rattle.pk_sets.proofs.merging.both_merge.Given as goal

abbrev pub invariant-fours : goal.invariant-fours
invariant-fours l = record {
  in_a : l.i ≤ length l.a;
  in_b : l.j ≤ length l.b;
  in_out : l.n ≤ length l.out;
  found : take l.n l.out ++ intersection (drop l.i l.a) (drop l.j l.b) ≡ intersection l.a l.b;
}

abbrev pub decreases-fours : goal.decreases-fours
decreases-fours l = (length l.a - l.i) + (length l.b - l.j)
