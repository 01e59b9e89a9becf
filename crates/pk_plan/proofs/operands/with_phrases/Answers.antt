-- One phrase more stands around.
use Rattle.std.proofs.Common.{◌≡◌, ◌<◌, ◌∙◌, ◌&&◌, ℕ, List, true, length, take, get_or, rules, refl, sym, ap, subst, arith}
use Rattle.std.proofs.lemmas.List.{take_all, take_more}
use Rattle.pk_plan.specs.declared.operands.PhrasePlaces.{PhrasePlaces}
use Rattle.pk_plan.specs.declared.plans.Plan.{Plan}
use Rattle.pk_plan.specs.Operands.{phrases_take}
use Rattle.pk_plan.specs.Order.{is_ordered}
use Rattle.pk_plan.specs.Plans.{operation_of, row_at, takes}
use Rattle.pk_plan.proofs.OperationLemmas.{of_phrase, phrase_ordered}
use Rattle.pk_plan.specs.Rows.{RestsOnWords, has_each, row_of}
use Rattle.pk_plan.proofs.RowLemmas.{and_left, each_at, row_rests}
use Rattle.pk_plan.proofs.TakingLemmas.{and_assoc, and_true, takes_phrase}
use Rattle.pk_plan.proofs.operands.with_phrases.Goals as goal

pub phrases-init : goal.phrases-init
phrases-init c = record {
  same = λ asked words. sym (and_true (takes (operation_of asked c.args.all) words));
  none = λ e. refl;
  order = λ table. refl;
  rows = λ asked rests each. rests;
}

pub phrases-preserved : goal.phrases-preserved
phrases-preserved c =
    let phrases = c.args.phrases.now in
    let i = c.phrases.i in
    let none : PhrasePlaces = record { first = 0; count = 0 } in
    let p = get_or phrases i none in
    let box = c.in_ok-new.field-0 in
    let is : box.value ≡ c.phrases.plan = search rules in
    let within : i < length phrases = search rules in
    record {
      same = λ asked words. (
          let all = takes (operation_of asked c.args.all) words in
          let stand = takes (row_at asked p.first p.count) words in
          let before = phrases_take asked words (take i phrases) in
          ap (λ o. takes o words) (of_phrase asked box p.first p.count)
          ∙ ap (λ (q : Plan). takes (operation_of asked q) words && stand) is
          ∙ ap (λ b. b && stand) (c.phrases.invariant.same asked words)
          ∙ and_assoc all before stand
          ∙ ap (λ b. all && b) (sym (ap (phrases_take asked words) (take_more phrases i none within) ∙ takes_phrase asked words (take i phrases) p)));
      none = λ e. absurd (omega (arith, e));
      order = λ table. phrase_ordered table box p.first p.count ∙ ap (is_ordered table) is ∙ c.phrases.invariant.order table;
      rows = λ asked rests each. subst RestsOnWords (sym (of_phrase asked box p.first p.count))
          (row_rests asked (operation_of asked box.value) p
          (subst (λ (q : Plan). RestsOnWords (operation_of asked q)) (sym is) (c.phrases.invariant.rows asked rests each))
          (λ words held. each_at (λ (q : PhrasePlaces). (ws : List (List ℕ)) → takes (operation_of asked c.args.all) ws ≡ true → has_each (row_of asked q) ws ≡ true)
          phrases i none each within words
          (and_left (takes (operation_of asked c.args.all) words) _
          (sym (c.phrases.invariant.same asked words) ∙ ap (λ (q : Plan). takes (operation_of asked q) words) (sym is) ∙ held))));
    }

pub returns-clause-same : goal.returns-clause-same
returns-clause-same c asked words =
    c.phrases.invariant.same asked words
    ∙ ap (λ (ps : List PhrasePlaces). takes (operation_of asked c.args.all) words && phrases_take asked words ps) (take_all c.phrases.i c.args.phrases.now (omega arith))

pub returns-clause-texts : goal.returns-clause-texts
returns-clause-texts c none = c.phrases.invariant.none (omega (arith, none, c.phrases.auto.i-end))

pub returns-clause-rows : goal.returns-clause-rows
returns-clause-rows c asked = c.phrases.invariant.rows asked
