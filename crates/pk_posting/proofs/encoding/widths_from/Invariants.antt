use Rattle.std.proofs.Common.{◌≡◌, ℕ, ◌<◌, ◌+◌, length, slice_index}
use Rattle.pk_posting.specs.Spelling.{width_byte}
use Rattle.pk_posting.proofs.encoding.widths_from.Given as goal

abbrev pub invariant-loop-j : goal.invariant-loop-j
invariant-loop-j l = (length l.widths ≡ 16) × ((i : ℕ) → i < l.j → slice_index l.widths i ≡ width_byte l.xs (l.k + i))
