-- There is one run to tidy, and lengths have one placing.
use Rattle.pk_state.proofs.OutcomeLemmas.{full_once, one_written, written_not_full, written_or_full}
use Rattle.pk_state.proofs.laws.a_write_has_one_outcome.Goals as goal

pub returns : goal.returns
returns c = record { either = written_or_full; never_both = written_not_full; written = one_written; full = full_once }
