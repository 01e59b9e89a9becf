-- The numbers so far are put.
use Rattle.std.proofs.Common.{◌≤◌, ◌-◌, length, take}
use Rattle.std.specs.List.{flat_map}
use Rattle.pk_shell.specs.ReplyText.{spaced}
use Rattle.pk_shell.specs.Sending.{HasPut}
use Rattle.pk_shell.proofs.sending.put_numbers.Given as goal

-- the numbers so far are put
abbrev pub invariant-loop-done : goal.invariant-loop-done
invariant-loop-done g l = record {
  within : l.done ≤ length l.numbers;
  so_far : HasPut l.fn.outbox (g.W.Write.contents l.fn.writer) l.outbox (g.W.Write.contents l.writer) (flat_map (λ n. spaced n.0) (take l.done l.numbers));
}

abbrev pub decreases-loop-done : goal.decreases-loop-done
decreases-loop-done g l = length l.numbers - l.done
