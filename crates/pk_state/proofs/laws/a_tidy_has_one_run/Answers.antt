-- Of two runs the later is not the first.
use Rattle.pk_state.proofs.MergeLemmas.{one_run}
use Rattle.pk_state.proofs.laws.a_tidy_has_one_run.Goals as goal

pub returns : goal.returns
returns c = one_run
