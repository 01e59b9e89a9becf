-- By the lemma.
use Rattle.pk_filter.proofs.FilterLemmas.{none_of}
use Rattle.pk_filter.proofs.laws.what_does_not_pass_has_no_entry.Goals as goal

pub returns : goal.returns
returns c = none_of
