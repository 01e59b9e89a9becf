-- What is counted so far is what is left of the segments so far.
use Rattle.std.proofs.Common.{◌≡◌, ◌≤◌, ◌*◌, take, sum_by}
use Rattle.pk_store.specs.Losing.{committed_left}
use Rattle.pk_store.proofs.losing.documents_left.Given as goal

abbrev pub invariant-loop-segment : goal.invariant-loop-segment
invariant-loop-segment l = record {
  counted : l.documents ≡ sum_by committed_left (take l.segment-index l.opened);
  few : l.documents ≤ 4294967295 * l.segment-index;
}
