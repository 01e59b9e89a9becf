-- At no place so far that may begin a word does the word stand.
use Rattle.std.proofs.Common.{◌-◌, ◌≤◌, length}
use Rattle.pk_pieces.specs.Scan.{StandsNowhere}
use Rattle.pk_pieces.proofs.passing.next_start.Given as goal

abbrev pub invariant-joined : goal.invariant-joined
invariant-joined l = record {
  low : l.from ≤ l.at;
  high : l.at ≤ length l.bytes;
  none : StandsNowhere l.bytes l.word l.from l.at;
}

abbrev pub decreases-joined : goal.decreases-joined
decreases-joined l = length l.bytes - l.at
