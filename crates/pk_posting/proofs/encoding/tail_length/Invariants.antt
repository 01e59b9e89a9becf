use Rattle.std.proofs.Common.{drop, ◌≤◌, ◌*◌}
use Rattle.pk_posting.specs.Writing.{TailCounted}
use Rattle.pk_posting.proofs.encoding.tail_length.Given as goal

abbrev pub invariant-loop-x : goal.invariant-loop-x
invariant-loop-x l = (l.count ≤ 5 * l.x-index) × TailCounted l.before l.here l.count l.xs (drop l.x-index l.xs)
