-- The list was read, and goes to the others.
use Rattle.std.proofs.Common.{◌≡◌, ◌∙◌, ap, refl, sym, subst}
use Rattle.std.specs.Prelude.{MatchResult, Result}
use Rattle.std.proofs.lemmas.Result.{err_from_is_err_and}
use Rattle.pk_posting.specs.declared.fault.ReadFault.{ReadFault}
use Rattle.pk_segment.specs.Indexed.{list_with}
use Rattle.pk_segment.specs.Reading.{IsNoDamage}
use Rattle.pk_sets.specs.Sets.{union}
use Rattle.pk_lookup.proofs.prefix.unite_list.Goals as goal

pub returns-in_err-put_list-clause-numbers : goal.returns-in_err-put_list-clause-numbers
returns-in_err-put_list-clause-numbers g c = λ honest docs is of word leads.
    let err = err_from_is_err_and c.from_residual.result c.from_residual.ensures.1 in
    subst (λ (r : Result (Unit {0}) ReadFault). MatchResult r (λ _. c.args.united.now ≡ union c.args.united.now (list_with word docs)) IsNoDamage) (sym err.1) (subst IsNoDamage (sym err.2) (c.in_err-put_list.ensures.numbers honest docs is of word leads))

pub returns-clause-numbers : goal.returns-clause-numbers
returns-clause-numbers g c = λ honest docs is of word leads.
    c.in_ok-put.ensures ∙ ap (union c.args.united.now) (c.deref.ensures.value ∙ c.in_ok-put_list.ensures.numbers honest docs is of word leads)

pub returns-clause-read : goal.returns-clause-read
returns-clause-read g c = record {
  list = c.put_list.new.out.items;
  opened = c.in_ok-put_list.ensures.opened refl;
  count = c.in_ok-put_list.ensures.count;
  rising = c.in_ok-put_list.ensures.rising;
  is = c.in_ok-put.ensures ∙ ap (union c.args.united.now) c.deref.ensures.value;
}
