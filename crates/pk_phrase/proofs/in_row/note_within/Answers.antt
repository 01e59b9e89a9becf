-- One number more, whose text lies in the span.
use Rattle.std.proofs.Common.{arith, rules, subst, sym}
use Rattle.pk_phrase.proofs.InRowLemmas.{fault_passed}
use Rattle.pk_phrase.proofs.SaidLemmas.{texts_none, texts_one, texts_then}
use Rattle.pk_phrase.specs.Said.{HaveTexts}
use Rattle.pk_phrase.proofs.in_row.note_within.Goals as goal

pub texts-init : goal.texts-init
texts-init c = record {
  next = search rules;
  kept = λ bytes docs within of so_far. so_far;
  read = λ bytes read of. texts_none bytes _ _ _;
}

pub texts-preserved : goal.texts-preserved
texts-preserved c = record {
  next = omega (arith, c.texts.invariant.next, c.in_ok-note_bytes.ensures.next);
  kept = λ bytes docs within of so_far. c.in_ok-note_bytes.ensures.kept bytes docs within (c.in-Some.ensures.text bytes docs within of) (c.texts.invariant.kept bytes docs within of so_far);
  read = λ bytes read of.
      let s = c.args.search.now.segment.now in
      let numbers = c.args.search.now.numbers.now in
      let one = texts_one bytes s numbers c.texts.hits.next _ c.next_candidate-candidate.ensures.number (_, c.in-Some.ensures.said bytes read of c.in_ok-note_bytes.ensures.read) in
      texts_then bytes s numbers _ _ _ (c.texts.invariant.read bytes read of) (subst (HaveTexts bytes s numbers c.texts.hits.next) (sym c.in_ok-note_bytes.ensures.next) one);
}

pub returns-in_err-note_bytes-clause-kept : goal.returns-in_err-note_bytes-clause-kept
returns-in_err-note_bytes-clause-kept c = λ bytes docs within of so_far.
    fault_passed _ _ _ c.from_residual.ensures.1 (c.in_err-note_bytes.ensures.kept bytes docs within (c.in-Some.ensures.text bytes docs within of) (c.texts.invariant.kept bytes docs within of so_far))
