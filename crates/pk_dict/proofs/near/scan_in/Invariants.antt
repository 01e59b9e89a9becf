-- What is left of the group gives what the whole scan gives.
use Rattle.std.proofs.Common.{◌-◌, ◌≡◌, ◌≤◌, List, ℕ, length}
use Rattle.pk_dict.specs.Reading.{IsPieceAt, scan_at}
use Rattle.pk_dict.specs.Scan.{scan_left}
use Rattle.pk_dict.proofs.near.scan_in.Given as goal

abbrev pub invariant-loop-done : goal.invariant-loop-done
invariant-loop-done l = record {
  within : l.matched ≤ length l.term;
  after : l.start ≤ l.at;
  value : (bytes : List ℕ) → IsPieceAt bytes l.start l.piece → scan_at (l.count - l.done) bytes l.term l.matched l.at ≡ scan_left bytes l.term l.fn.left;
}
