-- The lists may change places.
use Rattle.std.proofs.Common.{◌∙◌}
use Rattle.pk_sets.proofs.PartLemmas.{rising_all}
use Rattle.pk_sets.proofs.CallerLemmas.{union_turned}
use Rattle.pk_sets.proofs.uniting.either.Goals as goal

pub returns-then-is_long-2-clause-found : goal.returns-then-is_long-2-clause-found
returns-then-is_long-2-clause-found c =
    c.unite_runs-then-is_long-2.ensures.found
    ∙ union_turned c.args.b.now c.args.a.now (rising_all c.args.b.now c.requires.rising_b) (rising_all c.args.a.now c.requires.rising_a)
