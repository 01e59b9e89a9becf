-- Each number so far is above the one before it.
use Rattle.std.proofs.Common.{◌≡◌, ◌<◌, ◌∷◌, ℕ, slice_index}
use Rattle.pk_layers.proofs.lists.is_posting.Given as goal

abbrev pub invariant-loop-x : goal.invariant-loop-x
invariant-loop-x l = (l.before ≡ slice_index (0 ∷ l.xs) l.x-index) × ((i : ℕ) → i < l.x-index → slice_index (0 ∷ l.xs) i < slice_index l.xs i)
