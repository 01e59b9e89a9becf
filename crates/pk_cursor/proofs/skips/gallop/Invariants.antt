use Rattle.std.proofs.Common.{◌≡◌, ◌≤◌, ◌<◌, ◌+◌, ◌-◌, ◌^◌, ℕ, List}
use Rattle.pk_posting.specs.Parts.{HasShape, bytes_at}
use Rattle.pk_posting.proofs.SourceLemmas.{IsAnswered}
use Rattle.pk_cursor.specs.Seeking.{block_end}
use Rattle.pk_cursor.proofs.skips.gallop.Given as goal

abbrev pub invariant-loop-step : goal.invariant-loop-step
invariant-loop-step g l = record {
  left : IsAnswered g.S.ByteSource l.fn.source l.source;
  low : l.from ≤ l.low;
  high : l.low < l.shape.blocks;
  some : 0 < l.step;
  found : g.S.ByteSource.honest → (xs : List ℕ) → HasShape (bytes_at (g.S.ByteSource.content l.fn.source) l.place) l.shape xs → block_end xs l.from < l.target → block_end xs l.low < l.target;
  asks : (t : ℕ) × (l.step ≡ 2 ^ t) × (l.from + l.step ≡ l.low + 1) × (g.S.ByteSource.asked l.source ≤ g.S.ByteSource.asked l.fn.source + t);
}

abbrev pub decreases-loop-step : goal.decreases-loop-step
decreases-loop-step g l = l.shape.blocks - l.low
