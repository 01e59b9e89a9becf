-- The law by the lemma on the two tests.
use Rattle.pk_query.proofs.DepthLemmas.{tested}
use Rattle.pk_query.proofs.laws.depth_is_tested.Goals as goal

pub returns : goal.returns
returns c = tested
