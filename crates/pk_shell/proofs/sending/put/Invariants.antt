-- What is done of the bytes is put.
use Rattle.std.proofs.Common.{◌≤◌, ◌-◌, length, take}
use Rattle.pk_shell.specs.Sending.{HasPut}
use Rattle.pk_shell.proofs.sending.put.Given as goal

abbrev pub invariant-loop-done : goal.invariant-loop-done
invariant-loop-done g l = record {
  within : l.done ≤ length l.bytes;
  so_far : HasPut l.fn.outbox (g.W.Write.contents l.fn.writer) l.outbox (g.W.Write.contents l.writer) (take l.done l.bytes);
}

abbrev pub decreases-loop-done : goal.decreases-loop-done
decreases-loop-done g l = length l.bytes - l.done
