-- There is one first run, and one longest.
use Rattle.pk_space.proofs.Placing.{full_is_shorter, one_full, one_placing}
use Rattle.pk_space.proofs.laws.places_are_determined.Goals as goal

pub returns-clause-placed : goal.returns-clause-placed
returns-clause-placed c = one_placing

pub returns-clause-full : goal.returns-clause-full
returns-clause-full c = one_full

pub returns-clause-shorter : goal.returns-clause-shorter
returns-clause-shorter c = full_is_shorter
