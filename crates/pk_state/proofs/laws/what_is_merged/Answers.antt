-- By the cases of the entries.
use Rattle.pk_state.proofs.MergeLemmas.{merged_says}
use Rattle.pk_state.proofs.laws.what_is_merged.Goals as goal

pub returns : goal.returns
returns c = merged_says
