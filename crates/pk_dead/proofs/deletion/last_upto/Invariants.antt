-- The last number that is not above n is among those that are left.
use Rattle.std.proofs.Common.{◌+◌, ◌<◌, ◌≤◌, length, slice_index}
use Rattle.pk_dead.proofs.deletion.last_upto.Given as goal

abbrev pub invariant-halves : goal.invariant-halves
invariant-halves l = record {
  some : 0 < l.size;
  within : l.at + l.size ≤ length l.numbers;
  upto : 0 < l.at → slice_index l.numbers l.at ≤ l.n;
  above : l.at + l.size < length l.numbers → l.n < slice_index l.numbers (l.at + l.size);
}

abbrev pub decreases-halves : goal.decreases-halves
decreases-halves l = l.size
