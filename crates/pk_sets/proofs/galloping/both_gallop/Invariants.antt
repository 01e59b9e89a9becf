-- What is written, and the intersection of what is left.
use Rattle.std.proofs.Common.{◌≡◌, ◌+◌, ◌*◌, ◌≤◌, length, take, drop, ◌++◌}
use Rattle.pk_sets.specs.Sets.{intersection}
use Rattle.pk_sets.proofs.galloping.both_gallop.Given as goal

abbrev pub invariant-numbers : goal.invariant-numbers
invariant-numbers l = record {
  within : l.at ≤ l.count;
  room : l.n + length (intersection (drop l.i l.a) (drop (32 * l.at) l.b)) ≤ length l.out;
  found : take l.n l.out ++ intersection (drop l.i l.a) (drop (32 * l.at) l.b) ≡ intersection l.a l.b;
}
