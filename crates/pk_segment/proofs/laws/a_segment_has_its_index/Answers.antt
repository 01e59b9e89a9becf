-- By its parts.
use Rattle.pk_segment.proofs.ListingLemmas.{index_of}
use Rattle.pk_segment.proofs.laws.a_segment_has_its_index.Goals as goal

pub returns : goal.returns
returns c = λ bytes docs is. index_of bytes docs is
