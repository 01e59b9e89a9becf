-- Whether the bits are set in the lanes so far.
use Rattle.std.proofs.Common.{ℕ, ◌<◌, IsTrue, ◌↔◌}
use Rattle.pk_filter.specs.Bits.{HasBit}
use Rattle.pk_filter.proofs.bits.has_bits.Given as goal

abbrev pub invariant-asked : goal.invariant-asked
invariant-asked l = IsTrue l.all ↔ ((j : ℕ) → j < l.lane → HasBit l.lanes l.start l.hash j)
