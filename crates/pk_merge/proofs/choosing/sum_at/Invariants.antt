-- The sum so far is that of the sizes so far.
use Rattle.std.proofs.Common.{◌≡◌, ◌≤◌, ◌*◌, sum, take}
use Rattle.pk_merge.proofs.choosing.sum_at.Given as goal

abbrev pub invariant-loop-size : goal.invariant-loop-size
invariant-loop-size l = record {
  counted : l.sum ≡ sum (take l.size-index l.size-items);
  few : l.sum ≤ 4294967295 * l.size-index;
}
