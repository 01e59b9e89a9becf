use Rattle.std.proofs.Common.{◌∙◌, sym, subst}
use Rattle.pk_plan.proofs.TextLemmas.{intersect_reads}
use Rattle.pk_plan.specs.declared.plans.Plan.{Plan}
use Rattle.pk_plan.specs.Plans.{operation_of}
use Rattle.pk_plan.proofs.OperationLemmas.{of_all, of_intersect, of_term}
use Rattle.pk_plan.proofs.RowLemmas.{intersection_rests, word_rests}
use Rattle.pk_plan.specs.Rows.{RestsOnWords}
use Rattle.pk_plan.proofs.operands.intersected.Goals as goal
use Rattle.pk_plan.proofs.operands.intersected.Goals.{in-Some, in-None}

pub returns-clause-texts : goal.returns-clause-texts
returns-clause-texts c none = intersect_reads c.args.places c.args.parts ∙ none

pub returns-clause-rows : goal.returns-clause-rows
returns-clause-rows c asked all =
    subst RestsOnWords (sym (of_intersect asked c.args.places c.args.parts))
    (intersection_rests asked c.args.places.items c.args.parts.items all)

pub returns-then-len-lt2-clause-rows : goal.returns-then-len-lt2-clause-rows
returns-then-len-lt2-clause-rows c asked all = elim c.match-pop.branch [
  | in-Some w ↦ subst (λ (p : Plan). RestsOnWords (operation_of asked p)) (sym w.result-is)
      (subst RestsOnWords (sym (of_term asked w.in-Some.place)) (word_rests asked w.in-Some.place))
  | in-None w ↦ subst (λ (p : Plan). RestsOnWords (operation_of asked p)) (sym w.result-is) (subst RestsOnWords (sym (of_all asked)) tt)
]
