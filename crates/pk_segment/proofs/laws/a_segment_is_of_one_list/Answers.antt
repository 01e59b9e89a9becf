-- By reading the documents again.
use Rattle.pk_segment.proofs.SegmentLemmas.{one_list}
use Rattle.pk_segment.proofs.laws.a_segment_is_of_one_list.Goals as goal

pub returns : goal.returns
returns c = λ bytes a b j k x y. one_list bytes a b j k x y
