-- The first bytes agree, and what is shared after them is all that is left; a piece asks once.
use Rattle.std.proofs.Common.{◌-◌, ◌≡◌, ◌≤◌, ◌+◌, take, drop}
use Rattle.pk_posting.specs.Limits.{asks_for}
use Rattle.pk_posting.proofs.SourceLemmas.{IsAnswered}
use Rattle.pk_dict.specs.Dictionary.{shared}
use Rattle.pk_dict.specs.Place.{bytes_at}
use Rattle.pk_dict.proofs.compare.shared_with.Given as goal

abbrev pub invariant-loop-done : goal.invariant-loop-done
invariant-loop-done g l = record {
  left : IsAnswered g.S.ByteSource l.fn.source l.source;
  asks : g.S.ByteSource.asked l.source + asks_for (l.most - l.done) ≤ g.S.ByteSource.asked l.fn.source + asks_for l.most;
  below : l.done ≤ l.most;
  value : g.S.ByteSource.honest → l.done + shared (drop l.done (take l.n (drop l.at (bytes_at (g.S.ByteSource.content l.fn.source) l.place)))) (drop l.done l.term) ≡ shared (take l.n (drop l.at (bytes_at (g.S.ByteSource.content l.fn.source) l.place))) l.term;
}

abbrev pub decreases-loop-done : goal.decreases-loop-done
decreases-loop-done g l = l.most - l.done
