-- All words begin with nothing.
use Rattle.pk_segment.proofs.PrefixLemmas.{all_with_prefix}
use Rattle.pk_segment.proofs.segment.Segment.terms.Goals as goal

pub returns-clause-terms : goal.returns-clause-terms
returns-clause-terms g c = λ honest docs is of. all_with_prefix docs c.entries_of.result (c.entries_of.ensures.entries honest docs is of)
