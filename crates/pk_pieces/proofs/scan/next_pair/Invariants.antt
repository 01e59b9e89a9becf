-- No place so far shows both.
use Rattle.std.proofs.Common.{◌≡◌, ◌+◌, ◌<◌, ◌≤◌, ℕ, false, length, ◌-◌}
use Rattle.pk_pieces.specs.Scan.{shows_pair}
use Rattle.pk_pieces.proofs.scan.next_pair.Given as goal

abbrev pub invariant-vectors : goal.invariant-vectors
invariant-vectors l = record {
  low : l.from ≤ l.at;
  high : l.at ≤ length l.bytes;
  none : (k : ℕ) → l.from ≤ k → k < l.at → k + l.gap < length l.bytes → shows_pair l.bytes l.gap l.first l.last k ≡ false;
}

abbrev pub decreases-vectors : goal.decreases-vectors
decreases-vectors l = length l.bytes - l.at
