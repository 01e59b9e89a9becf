-- Case by case: what is accepted joins the log, a refusal leaves collection and body.
use Rattle.pk_state.proofs.SessionLemmas.{tells_next}
use Rattle.pk_state.proofs.laws.a_legal_step_is_told.Goals as goal

pub returns : goal.returns
returns c = tells_next
