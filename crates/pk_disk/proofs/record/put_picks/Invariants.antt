-- The positions so far are as the crash leaves them, and the others as they were.
use Rattle.std.proofs.Common.{◌≡◌, ◌++◌, take, drop, reverse}
use Rattle.pk_disk.specs.Memory.{open_after}
use Rattle.pk_disk.specs.Crash.{crashed}
use Rattle.pk_disk.proofs.record.put_picks.Given as goal

abbrev pub invariant-loop-position : goal.invariant-loop-position
invariant-loop-position l = record {
  done : take l.position l.bytes ++ crashed (open_after (reverse l.calls)) l.position (drop l.position l.fn.bytes) (drop l.next l.picks) ≡ crashed (open_after (reverse l.calls)) 0 l.fn.bytes l.picks;
  rest : drop l.position l.bytes ≡ drop l.position l.fn.bytes;
}
