-- No place so far shows it alone.
use Rattle.std.proofs.Common.{◌≡◌, ◌<◌, ◌≤◌, ℕ, false, length, ◌-◌}
use Rattle.pk_pieces.specs.Scan.{shows_single}
use Rattle.pk_pieces.proofs.single.next_single.Given as goal

abbrev pub invariant-vectors : goal.invariant-vectors
invariant-vectors l = record {
  low : l.from ≤ l.at;
  high : l.at ≤ length l.bytes;
  none : (k : ℕ) → l.from ≤ k → k < l.at → shows_single l.bytes l.sought k ≡ false;
}

abbrev pub decreases-vectors : goal.decreases-vectors
decreases-vectors l = length l.bytes - l.at
