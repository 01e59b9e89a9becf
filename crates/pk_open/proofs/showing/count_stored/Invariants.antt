-- What is counted so far is what is left of the segments so far.
use Rattle.std.proofs.Common.{◌≡◌, ◌≤◌, ◌*◌, take, sum_by}
use Rattle.pk_open.specs.Opened.{left_of}
use Rattle.pk_open.proofs.showing.count_stored.Given as goal

abbrev pub invariant-loop-segment : goal.invariant-loop-segment
invariant-loop-segment l = record {
  counted : l.documents ≡ sum_by left_of (take l.segment-index l.opened);
  few : l.documents ≤ 4294967295 * l.segment-index;
}
