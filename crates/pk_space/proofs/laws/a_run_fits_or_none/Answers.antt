-- Runs are tried from the first unit on, of fewer and fewer units.
use Rattle.pk_space.proofs.Placing.{fits_or_full}
use Rattle.pk_space.proofs.laws.a_run_fits_or_none.Goals as goal

pub returns : goal.returns
returns c = λ units free n below. fits_or_full free units below n
