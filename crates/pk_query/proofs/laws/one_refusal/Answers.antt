-- The law by the four ways in which a text within the limits can end.
use Rattle.pk_query.proofs.Once.{one_refusal}
use Rattle.pk_query.proofs.laws.one_refusal.Goals as goal

pub returns : goal.returns
returns c = λ text e f u h k. one_refusal text e f u h k
