-- No place so far shows it alone.
use Rattle.std.proofs.Common.{◌≡◌, ◌<◌, ◌≤◌, ℕ, false, length, ◌-◌}
use Rattle.pk_pieces.specs.Scan.{shows_single}
use Rattle.pk_pieces.proofs.single.next_single_by_bytes.Given as goal

abbrev pub invariant-bytes : goal.invariant-bytes
invariant-bytes l = record {
  low : l.from ≤ l.at;
  high : l.at ≤ length l.bytes;
  none : (k : ℕ) → l.from ≤ k → k < l.at → shows_single l.bytes l.sought k ≡ false;
}

abbrev pub decreases-bytes : goal.decreases-bytes
decreases-bytes l = length l.bytes - l.at
