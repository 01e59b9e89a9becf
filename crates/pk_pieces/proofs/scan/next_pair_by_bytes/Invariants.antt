-- No place so far shows both.
use Rattle.std.proofs.Common.{◌≡◌, ◌+◌, ◌<◌, ◌≤◌, ℕ, false, length, ◌-◌}
use Rattle.pk_pieces.specs.Scan.{shows_pair}
use Rattle.pk_pieces.proofs.scan.next_pair_by_bytes.Given as goal

abbrev pub invariant-bytes : goal.invariant-bytes
invariant-bytes l = record {
  low : l.from ≤ l.at;
  high : l.at ≤ length l.bytes;
  none : (k : ℕ) → l.from ≤ k → k < l.at → k + l.gap < length l.bytes → shows_pair l.bytes l.gap l.first l.last k ≡ false;
}

abbrev pub decreases-bytes : goal.decreases-bytes
decreases-bytes l = length l.bytes - l.at
