use Rattle.pk_posting.specs.Writing.{BlocksPut}
use Rattle.pk_posting.proofs.encoding.put_blocks.Given as goal

abbrev pub invariant-loop-k : goal.invariant-loop-k
invariant-loop-k l = BlocksPut l.xs l.k l.at l.fn.head l.head l.body
