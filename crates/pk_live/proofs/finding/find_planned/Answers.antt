-- The live lists are those of the plan's words.
use Rattle.std.proofs.Common.{◌≡◌, ◌∙◌, true, ap, refl, subst, sym}
use Rattle.std.specs.List.Sorted.{IsStrictlyIncreasing}
use Rattle.pk_plan.proofs.OperationLemmas.{of_term}
use Rattle.pk_plan.specs.Plans.{Operation, found, operation_of, word_at}
use Rattle.pk_plan.specs.Words.{texts}
use Rattle.pk_sets.specs.Sets.{intersection}
use Rattle.pk_live.proofs.finding.find_planned.Goals as goal

pub returns-in-Term-clause-none : goal.returns-in-Term-clause-none
returns-in-Term-clause-none c = λ docs keeps live place is none.
    let words = texts c.args.planned.now.words.items in
    let one : word_at (texts c.as_slice-words.result.now) c.in-Term.place ≡ operation_of words c.args.planned.now.plan =
    ap (λ ws. word_at (texts ws) c.in-Term.place) c.as_slice-words.ensures ∙ sym (ap (operation_of words) c.in-Term.is ∙ of_term words c.in-Term.place) in
    c.live_list.ensures.none (ap (λ ns. intersection ns c.list_at.result.now) live ∙ c.list_at.ensures.live docs keeps ∙ ap (λ (o : Operation). found o docs) one ∙ none)

pub returns : goal.returns
returns c = record {
  found = λ docs keeps live here. c.in_ok-carry_out.ensures.numbers true (texts c.args.planned.now.words.items) docs (record {
    keeps = keeps;
    numbers = live;
    rising = subst IsStrictlyIncreasing live c.requires.live;
    documents = here;
    same = ap texts c.as_slice-words.ensures;
  }) (λ e. refl);
  none = λ docs keeps live place is e. refl;
}
