-- The law by the machine, which reads one query.
use Rattle.pk_query.specs.Tokens.{tokens}
use Rattle.pk_query.proofs.Faults.{one_reading}
use Rattle.pk_query.proofs.laws.one_reading.Goals as goal

pub returns : goal.returns
returns c = λ text p q d e. one_reading (tokens text) p q d e
