use Rattle.std.proofs.Common.{◌≤◌, ◌<◌, ◌+◌, ◌-◌, ◌^◌, ℕ, List}
use Rattle.pk_posting.specs.Parts.{HasShape, bytes_at}
use Rattle.pk_posting.proofs.SourceLemmas.{IsAnswered}
use Rattle.pk_cursor.specs.Seeking.{Between}
use Rattle.pk_cursor.proofs.skips.narrow.Given as goal

abbrev pub invariant-loop-high : goal.invariant-loop-high
invariant-loop-high g l = record {
  left : IsAnswered g.S.ByteSource l.fn.source l.source;
  order : (l.start ≤ l.low) × (l.low < l.high) × (l.high ≤ l.shape.blocks);
  found : g.S.ByteSource.honest → (xs : List ℕ) → HasShape (bytes_at (g.S.ByteSource.content l.fn.source) l.place) l.shape xs
      → Between xs l.shape.blocks l.target l.start l.end → Between xs l.shape.blocks l.target l.low l.high;
  asks : (t : ℕ) → l.end - l.start ≤ 2 ^ t → (u : ℕ) × (l.high - l.low ≤ 2 ^ u) × (g.S.ByteSource.asked l.source + u ≤ g.S.ByteSource.asked l.fn.source + t);
}

abbrev pub decreases-loop-high : goal.decreases-loop-high
decreases-loop-high g l = l.high - l.low
