-- The floors so far.
use Rattle.std.proofs.Common.{◌≡◌, length}
use Rattle.pk_join.specs.HeadKeys.{AreFloors}
use Rattle.pk_join.proofs.head_keys.raise_all.Given as goal

abbrev pub invariant-groups : goal.invariant-groups
invariant-groups l = record {
  len : length l.floors ≡ length l.fn.floors;
  floors : AreFloors l.keys l.floors;
}
