-- Each length fits or does not, beside those before it.
use Rattle.pk_space.proofs.Placing.{placed_not_full, placed_or_full}
use Rattle.pk_space.proofs.laws.lengths_are_placed_or_full.Goals as goal

pub returns-clause-either : goal.returns-clause-either
returns-clause-either c = placed_or_full

pub returns-clause-never_both : goal.returns-clause-never_both
returns-clause-never_both c = placed_not_full
