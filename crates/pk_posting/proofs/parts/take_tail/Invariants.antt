use Rattle.std.proofs.Common.{◌≤◌, [], take, length}
use Rattle.pk_posting.specs.Tails.{TailTo}
use Rattle.pk_posting.proofs.parts.take_tail.Given as goal

abbrev pub invariant-loop-i : goal.invariant-loop-i
invariant-loop-i l = record {
  room : l.at ≤ length l.bytes;
  read : TailTo l.bytes 0 l.before l.count l.i l.at l.here [] (take l.i l.xs);
}
