-- Entry by entry.
use Rattle.pk_state.proofs.IndexedLemmas.{entries_indexed}
use Rattle.pk_state.proofs.laws.what_is_spelled_is_indexed.Goals as goal

pub returns : goal.returns
returns c = entries_indexed
