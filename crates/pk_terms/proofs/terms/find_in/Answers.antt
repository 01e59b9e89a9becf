-- The slots of the word's hash are passed, until the word is found or a slot is free.
use Rattle.std.proofs.Common.{◌∙◌, ◌+◌, ap, sym, arith, length}
use Rattle.pk_terms.specs.Fingerprints.{fingerprint_of, hash_of}
use Rattle.pk_terms.specs.Slots.{slot_of, step_of}
use Rattle.pk_terms.specs.Table.{words_in}
use Rattle.pk_terms.proofs.SlotLemmas.{step_more}
use Rattle.pk_terms.proofs.TableLemmas.{absent, absent_all, others_more, others_none}
use Rattle.pk_terms.proofs.terms.find_in.Goals as goal

pub slots-init : goal.slots-init
unfolding step_of
slots-init c = record {
  within = c.slot_of-at.ensures.within;
  is = c.slot_of-at.ensures.value ∙ ap (slot_of (length c.args.slots.now)) (c.hash_of.ensures ∙ ap hash_of c.fingerprint-fingerprint.ensures.value);
  others = others_none (words_in c.args.entries.now c.args.text.now) c.args.slots.now c.args.word.now;
}

pub slots-preserved : goal.slots-preserved
slots-preserved c =
    let slots = c.args.slots.now in
    let i = c.slots.invariant in
    record {
      within = c.slot_of-at-in-slots.ensures.within;
      is = c.slot_of-at-in-slots.ensures.value ∙ ap (λ a. slot_of (length slots) (a + 1)) i.is ∙ sym (step_more (length slots) (hash_of (fingerprint_of c.args.word.now)) c.slots._step);
      others = others_more (words_in c.args.entries.now c.args.text.now) slots c.args.word.now c.slots._step c.slots.at i.is (omega arith)
          (λ there. let yes = c.is_at.ensures.1 there in let no = c.if-is_at.false in cc) i.others;
    }

pub returns-then-next-eq0 : goal.returns-then-next-eq0
returns-then-next-eq0 c =
    absent c.args.entries.now c.args.text.now c.args.slots.now c.args.word.now c.requires.table
    c.slots._step c.slots.at c.slots.invariant.is c.if-next-eq0.true c.slots.invariant.others

pub returns : goal.returns
returns c =
    absent_all c.args.entries.now c.args.text.now c.args.slots.now c.args.word.now c.requires.table c.slots._step (omega arith) c.slots.invariant.others
