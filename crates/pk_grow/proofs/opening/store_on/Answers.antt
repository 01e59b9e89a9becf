-- What first units hold, the store holds that the body in force says.
use Rattle.pk_grow.proofs.StoreLemmas.{opened_by}
use Rattle.pk_grow.proofs.opening.store_on.Goals as goal

pub returns-clause-holds : goal.returns-clause-holds
returns-clause-holds g c = λ honest. opened_by c.cut.result _ (g.D.Disk.content c.args.disk) (c.cut.ensures.content honest)
