-- The bytes so far, and the asks that they took.
use Rattle.std.proofs.Common.{◌≡◌, ◌≤◌, ◌+◌, ◌-◌, length, take, drop, Ok}
use Rattle.pk_posting.specs.Limits.{asks_for}
use Rattle.pk_posting.specs.Frames.{ReadsSource}
use Rattle.pk_segment.specs.Reading.{CountsReads}
use Rattle.pk_segment.proofs.stretch.stretch.Given as goal

abbrev pub invariant-loop-done : goal.invariant-loop-done
invariant-loop-done g l =
    let content = g.S.ByteSource.content in
    record {
      left : ReadsSource g.S.ByteSource CountsReads (Ok (tt {0})) l.fn.source l.source;
      within : l.done ≤ l.len;
      put : length l.out.items ≡ l.done;
      read : g.S.ByteSource.honest → l.out.items ≡ take l.done (drop l.at (content l.fn.source));
      asked : g.S.ByteSource.asked l.source + asks_for (l.len - l.done) ≤ g.S.ByteSource.asked l.fn.source + asks_for l.len;
    }

abbrev pub decreases-loop-done : goal.decreases-loop-done
decreases-loop-done g l = l.len - l.done
