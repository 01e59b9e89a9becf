-- Without a live number in the list none is in both, and else there is one.
use Rattle.std.proofs.Common.{◌∙◌, sym}
use Rattle.pk_index.proofs.HitLemmas.{none_shared, some_shared}
use Rattle.pk_live.proofs.finding.live_list.Goals as goal

pub returns-then-not-is_any_in-clause-found : goal.returns-then-not-is_any_in-clause-found
returns-then-not-is_any_in-clause-found c =
    c.new.ensures.items ∙ sym (none_shared c.args.live.now c.args.list.now (sym c.is_any_in.ensures ∙ c.if-not-is_any_in.true))

pub returns-clause-none : goal.returns-clause-none
returns-clause-none c = λ none. absurd (some_shared c.args.live.now c.args.list.now (sym c.is_any_in.ensures ∙ c.if-not-is_any_in.false) none)
