-- The first bytes stand at the end; a piece asks once.
use Rattle.std.proofs.Common.{◌-◌, ◌+◌, ◌≡◌, ◌≤◌, ◌++◌, length, take, drop}
use Rattle.std.specs.Prelude.{vec_capacity}
use Rattle.pk_posting.specs.Limits.{asks_for}
use Rattle.pk_posting.proofs.SourceLemmas.{IsAnswered}
use Rattle.pk_dict.specs.Place.{bytes_at}
use Rattle.pk_dict.proofs.entries.append.Given as goal

abbrev pub invariant-loop-done : goal.invariant-loop-done
invariant-loop-done g l = record {
  left : IsAnswered g.S.ByteSource l.fn.source l.source;
  asks : g.S.ByteSource.asked l.source + asks_for (l.n - l.done) ≤ g.S.ByteSource.asked l.fn.source + asks_for l.n;
  below : l.done ≤ l.n;
  long : length l.out.items ≡ length l.fn.out.items + l.done;
  room : vec_capacity l.fn.out ≤ vec_capacity l.out;
  value : g.S.ByteSource.honest → l.out.items ≡ l.fn.out.items ++ take l.done (drop l.at (bytes_at (g.S.ByteSource.content l.fn.source) l.place));
}

abbrev pub decreases-loop-done : goal.decreases-loop-done
decreases-loop-done g l = l.n - l.done
