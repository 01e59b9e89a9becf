-- Whether the vectors so far rise.
use Rattle.std.proofs.Common.{ℕ, ◌+◌, ◌*◌, ◌<◌, ◌++◌, slice_index, IsTrue, ◌↔◌}
use Rattle.pk_lanes.proofs.questions.ascending.Given as goal

abbrev pub invariant-vectors : goal.invariant-vectors
invariant-vectors l = IsTrue l.fine ↔ ((i : ℕ) → i < 4 * l.k → slice_index (l.seed ++ l.xs) (3 + i) < slice_index l.xs i)
