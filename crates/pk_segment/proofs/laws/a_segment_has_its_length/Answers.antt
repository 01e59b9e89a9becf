-- By the lengths of its parts.
use Rattle.pk_segment.proofs.SegmentLemmas.{length_segment}
use Rattle.pk_segment.proofs.laws.a_segment_has_its_length.Goals as goal

pub returns : goal.returns
returns c = λ docs kind. length_segment docs kind
