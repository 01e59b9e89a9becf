-- The slots so far are free.
use Rattle.std.proofs.Common.{◌≡◌, ◌<◌, ℕ, length, slice_index}
use Rattle.pk_terms.proofs.slots.free_all.Given as goal

abbrev pub invariant-slots : goal.invariant-slots
invariant-slots l = record {
  len : length l.slots ≡ length l.fn.slots;
  free : (j : ℕ) → j < l.k → slice_index l.slots j ≡ 0;
}
