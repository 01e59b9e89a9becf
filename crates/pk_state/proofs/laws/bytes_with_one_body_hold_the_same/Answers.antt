-- The entries spell the same.
use Rattle.pk_state.proofs.HoldsLemmas.{holds_with}
use Rattle.pk_state.proofs.laws.bytes_with_one_body_hold_the_same.Goals as goal

pub returns : goal.returns
returns c = holds_with
