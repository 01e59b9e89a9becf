-- The number and the text of the entry.
use Rattle.pk_segment.proofs.ReadLemmas.{document_is}
use Rattle.pk_segment.proofs.segment.Segment.document_of.Goals as goal

pub returns-clause-spelled : goal.returns-clause-spelled
returns-clause-spelled g c = λ honest docs kind i is of lt says.
    document_is docs i _ _ lt says.number_is (c.in_ok-text.ensures.spelled honest docs kind i is of lt says)
