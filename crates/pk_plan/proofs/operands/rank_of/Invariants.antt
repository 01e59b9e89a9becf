use Rattle.std.proofs.Common.{◌<◌, ℕ, slice_index}
use Rattle.pk_plan.specs.Order.{frequency_of}
use Rattle.pk_plan.proofs.operands.rank_of.Given as goal

abbrev pub invariant-loop-i : goal.invariant-loop-i
invariant-loop-i l = (j : ℕ) → j < l.i → frequency_of l.table (slice_index l.places j) < l.frequency
