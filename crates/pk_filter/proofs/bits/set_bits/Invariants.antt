-- The bits are set in the lanes so far, and each lane has those that it had.
use Rattle.std.proofs.Common.{ℕ, ◌<◌}
use Rattle.pk_filter.specs.Bits.{Grows, HasBit}
use Rattle.pk_filter.proofs.bits.set_bits.Given as goal

abbrev pub invariant-set : goal.invariant-set
invariant-set l = record {
  has : (j : ℕ) → j < l.lane → HasBit l.lanes l.start l.hash j;
  grows : Grows l.fn.lanes l.lanes;
}
