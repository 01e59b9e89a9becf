-- The numbers so far are written.
use Rattle.std.proofs.Common.{◌≡◌, ◌≤◌, ◌-◌, ◌++◌, length, take}
use Rattle.std.specs.List.{flat_map}
use Rattle.pk_shell.specs.ReplyText.{spaced}
use Rattle.pk_shell.proofs.outbox.write_numbers.Given as goal

abbrev pub invariant-loop-written : goal.invariant-loop-written
invariant-loop-written l = record {
  within : l.written ≤ length l.numbers;
  room : l.end ≤ length l.out;
  size : length l.out ≡ length l.fn.out;
  so_far : take l.end l.out ≡ take l.start l.fn.out ++ flat_map (λ n. spaced n.0) (take l.written l.numbers);
}

abbrev pub decreases-loop-written : goal.decreases-loop-written
decreases-loop-written l = length l.numbers - l.written
