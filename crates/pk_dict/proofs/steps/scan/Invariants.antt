-- What is left of the group gives what the whole scan gives; each term may ask as often as a step.
use Rattle.std.proofs.Common.{◌≡◌, ◌≤◌, ◌+◌, ◌*◌, length}
use Rattle.pk_posting.specs.Limits.{asks_for}
use Rattle.pk_posting.proofs.SourceLemmas.{IsAnswered}
use Rattle.pk_dict.specs.Place.{bytes_at}
use Rattle.pk_dict.specs.Scan.{scan_left}
use Rattle.pk_dict.proofs.steps.scan.Given as goal

abbrev pub invariant-loop-left : goal.invariant-loop-left
invariant-loop-left g l = record {
  left : IsAnswered g.S.ByteSource l.fn.source l.source;
  asks : g.S.ByteSource.asked l.source + l.left.count * (6 + asks_for (length l.term)) ≤ g.S.ByteSource.asked l.fn.source + l.fn.left.count * (6 + asks_for (length l.term));
  within : l.left.matched ≤ length l.term;
  value : g.S.ByteSource.honest → scan_left (bytes_at (g.S.ByteSource.content l.fn.source) l.place) l.term l.fn.left ≡ scan_left (bytes_at (g.S.ByteSource.content l.fn.source) l.place) l.term l.left;
}

abbrev pub decreases-loop-left : goal.decreases-loop-left
decreases-loop-left g l = l.left.count
