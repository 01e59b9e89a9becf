-- The law by the lemma on places at which a list is split.
use Rattle.pk_query.proofs.Once.{stops_once}
use Rattle.pk_query.proofs.laws.one_first_stop.Goals as goal

pub returns : goal.returns
returns c = λ text p q s t. stops_once text p q s t
