use Rattle.std.proofs.Common.{◌≡◌}
use Rattle.std.specs.Prelude.{vec_capacity}
use Rattle.pk_posting.specs.Reading.{ReadTo}
use Rattle.pk_posting.proofs.decoding.read_blocks.Given as goal

abbrev pub invariant-loop-k : goal.invariant-loop-k
invariant-loop-k l = record {
  read : ReadTo l.bytes l.blocks l.k l.out.items l.seed l.at l.widths;
  memory : vec_capacity l.out ≡ vec_capacity l.initial.out;
}
