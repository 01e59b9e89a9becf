use Rattle.std.proofs.Common.{drop}
use Rattle.pk_posting.specs.Writing.{TailPut}
use Rattle.pk_posting.proofs.encoding.put_tail.Given as goal

abbrev pub invariant-loop-x : goal.invariant-loop-x
invariant-loop-x l = TailPut l.start l.before l.at l.here l.xs (drop l.x-index l.xs) l.fn.out l.out
