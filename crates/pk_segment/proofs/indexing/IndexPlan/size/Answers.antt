-- The header says how long the segment is.
use Rattle.std.proofs.Common.{◌∙◌}
use Rattle.pk_segment.proofs.PlanLemmas.{header_size}
use Rattle.pk_segment.proofs.indexing.IndexPlan.size.Goals as goal

pub returns : goal.returns
returns c = λ docs is. (c.size.ensures ∙ header_size docs c.args.self.now.header is.header_is, is.fits)
