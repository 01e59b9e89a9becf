use Rattle.std.proofs.Common.{◌≡◌, ◌++◌, take}
use Rattle.std.specs.Prelude.{vec_capacity}
use Rattle.pk_posting.proofs.decoding.put_numbers.Given as goal

abbrev pub invariant-loop-x : goal.invariant-loop-x
invariant-loop-x l = record {
  numbers : l.out.items ≡ l.fn.out.items ++ take l.x-index l.xs;
  memory : vec_capacity l.out ≡ vec_capacity l.fn.out;
}
