use Rattle.std.proofs.Common.{◌≡◌}
use Rattle.std.specs.Prelude.{vec_capacity}
use Rattle.pk_posting.specs.Tails.{TailTo}
use Rattle.pk_posting.proofs.decoding.read_tail.Given as goal

abbrev pub invariant-loop-i : goal.invariant-loop-i
invariant-loop-i l = record {
  read : TailTo l.bytes l.start l.before l.count l.i l.at l.here l.fn.out.items l.out.items;
  memory : vec_capacity l.out ≡ vec_capacity l.fn.out;
}
