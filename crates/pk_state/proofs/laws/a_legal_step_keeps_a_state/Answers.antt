-- What is added has the next number; what is written keeps each document that is there.
use Rattle.pk_state.proofs.StateLemmas.{step_state}
use Rattle.pk_state.proofs.laws.a_legal_step_keeps_a_state.Goals as goal

pub returns : goal.returns
returns c = step_state
