-- Each document of now is a committed one.
use Rattle.pk_state.proofs.StateLemmas.{opened_state}
use Rattle.pk_state.proofs.laws.a_store_just_opened_is_in_a_state.Goals as goal

pub returns : goal.returns
returns c = opened_state
