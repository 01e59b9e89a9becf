-- By whether there is a document: without one there are 24 bytes.
use Rattle.pk_state.proofs.WorkLemmas.{too_large}
use Rattle.pk_state.proofs.laws.what_is_too_large.Goals as goal

pub returns : goal.returns
returns c = too_large
