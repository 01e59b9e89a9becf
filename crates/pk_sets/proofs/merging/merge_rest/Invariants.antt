-- What is written, and the intersection of what is left.
use Rattle.std.proofs.Common.{◌-◌, ◌≡◌, ◌+◌, ◌≤◌, length, take, drop, ◌++◌}
use Rattle.pk_sets.specs.Sets.{intersection}
use Rattle.pk_sets.proofs.merging.merge_rest.Given as goal

abbrev pub invariant-ends : goal.invariant-ends
invariant-ends l = record {
  in_a : l.i ≤ length l.a;
  in_b : l.j ≤ length l.b;
  room : l.n + length (intersection (drop l.i l.a) (drop l.j l.b)) ≤ length l.out;
  found : take l.n l.out ++ intersection (drop l.i l.a) (drop l.j l.b)
      ≡ take l.place l.initial.out ++ intersection (drop l.from l.a) (drop l.start l.b);
}

abbrev pub decreases-ends : goal.decreases-ends
decreases-ends l = (length l.a - l.i) + (length l.b - l.j)
