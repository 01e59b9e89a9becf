-- The calls that are not looked at yet decide as all of them do.
use Rattle.std.proofs.Common.{◌≡◌, ◌≤◌, length, take, reverse}
use Rattle.pk_disk.specs.Memory.{open_after}
use Rattle.pk_disk.proofs.record.left_open.Given as goal

abbrev pub invariant-loop-n : goal.invariant-loop-n
invariant-loop-n l = record {
  room : l.n ≤ length l.calls;
  same : open_after (reverse (take l.n l.calls)) l.position ≡ open_after (reverse l.calls) l.position;
}

abbrev pub decreases-loop-n : goal.decreases-loop-n
decreases-loop-n l = l.n
