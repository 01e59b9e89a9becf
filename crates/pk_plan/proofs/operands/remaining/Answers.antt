use Rattle.std.proofs.Common.{◌∙◌, ◌≡◌, ◌&&◌, List, [], not, sym, ap, subst}
use Rattle.std.proofs.lemmas.Bool.{eqb-true}
use Rattle.std.proofs.lemmas.List.{nil_from_length}
use Rattle.pk_plan.specs.declared.plans.Plan.{Plan}
use Rattle.pk_plan.specs.Operands.{any_takes}
use Rattle.pk_plan.specs.Order.{is_ordered}
use Rattle.pk_plan.specs.Plans.{operation_of, takes}
use Rattle.pk_plan.proofs.OrderLemmas.{both_true}
use Rattle.pk_plan.proofs.TakingLemmas.{and_true}
use Rattle.pk_plan.specs.Rows.{RestsOnWords}
use Rattle.pk_plan.proofs.operands.remaining.Goals as goal

pub returns-then-is_empty-clause-same : goal.returns-then-is_empty-clause-same
returns-then-is_empty-clause-same c asked words =
    let none : c.args.excluded.items ≡ [] = nil_from_length c.args.excluded.items (sym c.args.excluded.ok.0 ∙ eqb-true _ 0 (sym c.is_empty.ensures ∙ c.if-is_empty.true)) in
    let all = takes (operation_of asked c.args.all) words in
    sym (and_true all) ∙ ap (λ (ps : List Plan). all && not (any_takes asked words ps)) (sym none)

pub returns-clause-same : goal.returns-clause-same
returns-clause-same c asked words =
    ap (λ o. takes o words) (c.in_ok-plan.ensures.same asked)
    ∙ ap (λ b. takes (operation_of asked c.args.all) words && not b) (c.united.ensures.same asked words)

pub returns-clause-order : goal.returns-clause-order
returns-clause-order c table all excluded = c.in_ok-plan.ensures.order table
    ∙ both_true (is_ordered table c.args.all) (is_ordered table c.united.result) all (c.united.ensures.order table excluded)

pub returns-clause-rows : goal.returns-clause-rows
returns-clause-rows c asked all excluded =
    subst RestsOnWords (sym (c.in_ok-plan.ensures.same asked)) (all, c.united.ensures.rows asked excluded)
