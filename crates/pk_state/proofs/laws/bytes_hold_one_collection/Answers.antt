-- One body is in force, and its entries spell one thing each.
use Rattle.pk_state.proofs.HoldsLemmas.{holds_one as law}
use Rattle.pk_state.proofs.laws.bytes_hold_one_collection.Goals as goal

pub returns : goal.returns
returns c = law
