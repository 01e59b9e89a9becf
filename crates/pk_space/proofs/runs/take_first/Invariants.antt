-- The runs so far are too short, and the longest of them is known.
use Rattle.std.proofs.Common.{◌≡◌, ◌≤◌, ◌<◌, take}
use Rattle.pk_space.proofs.PlaceLemmas.{EachRun, IsLongest}
use Rattle.pk_space.proofs.runs.take_first.Given as goal

abbrev pub invariant-loop-i : goal.invariant-loop-i
invariant-loop-i l = record {
  same : l.runs ≡ l.fn.runs;
  short : l.largest < l.need;
  each : EachRun (λ r. r.count ≤ l.largest) (take l.i l.runs);
  longest : IsLongest l.largest l.runs;
}
