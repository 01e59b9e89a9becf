use Rattle.std.proofs.Common.{◌∙◌, sym, subst}
use Rattle.pk_plan.proofs.TextLemmas.{unite_reads}
use Rattle.pk_plan.proofs.OperationLemmas.{of_unite}
use Rattle.pk_plan.proofs.RowLemmas.{union_rests}
use Rattle.pk_plan.specs.Rows.{RestsOnWords}
use Rattle.pk_plan.proofs.operands.united.Goals as goal

pub returns-clause-texts : goal.returns-clause-texts
returns-clause-texts c none = unite_reads c.args.plans ∙ none

pub returns-clause-rows : goal.returns-clause-rows
returns-clause-rows c asked all =
    subst RestsOnWords (sym (of_unite asked c.args.plans)) (union_rests asked c.args.plans.items all)
