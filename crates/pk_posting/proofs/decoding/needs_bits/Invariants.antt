use Rattle.std.proofs.Common.{ℕ, ◌<◌, ◌-◌, ◌^◌, slice_index}
use Rattle.pk_posting.specs.Posting.{differences}
use Rattle.pk_posting.proofs.decoding.needs_bits.Given as goal

abbrev pub invariant-loop-i : goal.invariant-loop-i
invariant-loop-i l = (j : ℕ) → j < l.i → slice_index (differences l.seed l.xs) j < 2 ^ (l.width - 1)
