-- A word that does not pass the filter has no entry.
use Rattle.std.proofs.Common.{Option, subst}
use Rattle.std.specs.Borrow.{Bor}
use Rattle.std.specs.Prelude.{IfSome}
use Rattle.pk_filter.specs.declared.filter.WordFilter.{WordFilter}
use Rattle.pk_filter.specs.Filter.{HasAll}
use Rattle.pk_lookup.proofs.FilterLemmas.{ruled_out}
use Rattle.pk_lookup.proofs.listed.FilteredDict.rules_out.Goals as goal

pub returns-in-Some-clause-lacks : goal.returns-in-Some-clause-lacks
returns-in-Some-clause-lacks c = λ es word all is lacks.
    ruled_out es c.in-Some.filter.now c.args.hash word c.may_have.result c.may_have.ensures (subst (λ (o : Option (Bor WordFilter)). IfSome o (λ filter. HasAll es filter.now)) c.in-Some.is all) is lacks
