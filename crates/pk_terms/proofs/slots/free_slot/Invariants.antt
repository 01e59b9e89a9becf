-- The slots so far are taken.
use Rattle.std.proofs.Common.{◌≡◌, ◌<◌, length}
use Rattle.pk_terms.specs.Slots.{step_of, AreTaken}
use Rattle.pk_terms.proofs.slots.free_slot.Given as goal

abbrev pub invariant-slots : goal.invariant-slots
invariant-slots l = record {
  within : l.at < length l.slots;
  is : l.at ≡ step_of (length l.slots) l.hash l._step;
  taken : AreTaken (length l.slots) l.slots l.hash l._step;
}
