-- The first number of each block so far is above the one before.
use Rattle.std.proofs.Common.{◌+◌, ◌*◌, ◌<◌, ℕ, length, slice_index}
use Rattle.pk_lookup.proofs.rising.blocks_rise.Given as goal

abbrev pub invariant-loop-block : goal.invariant-loop-block
invariant-loop-block l =
    (k : ℕ) → k < l.block → 128 * k + 128 < length l.numbers → slice_index l.numbers (128 * k + 127) < slice_index l.numbers (128 * k + 128)
