-- One more slot is taken, or it is the first free one.
use Rattle.std.proofs.Common.{◌∙◌, ◌+◌, ap, sym, arith, length}
use Rattle.pk_terms.specs.Slots.{slot_of, step_of}
use Rattle.pk_terms.proofs.SlotLemmas.{step_more, taken_more, taken_none}
use Rattle.pk_terms.proofs.slots.free_slot.Goals as goal

pub slots-init : goal.slots-init
unfolding step_of
slots-init c = record {
  within = c.slot_of-at.ensures.within;
  is = c.slot_of-at.ensures.value;
  taken = taken_none (length c.args.slots.now) c.args.slots.now c.args.hash;
}

pub slots-preserved : goal.slots-preserved
slots-preserved c =
    let slots = c.args.slots.now in
    let i = c.slots.invariant in
    record {
      within = c.slot_of-at-in-slots.ensures.within;
      is = c.slot_of-at-in-slots.ensures.value ∙ ap (λ a. slot_of (length slots) (a + 1)) i.is ∙ sym (step_more (length slots) c.args.hash c.slots._step);
      taken = taken_more (length slots) slots c.args.hash c.slots._step c.slots.at i.is (omega arith) i.taken;
    }
