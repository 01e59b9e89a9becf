-- The body and the claims of its entries stand fast.
use Rattle.pk_state.proofs.HoldsLemmas.{kept_holds}
use Rattle.pk_state.proofs.laws.what_is_kept_is_held.Goals as goal

pub returns : goal.returns
returns c = λ bytes image is_open spare committed kept numbers is. kept_holds bytes is_open spare committed kept numbers image is
