-- The dictionary is given last.
use Rattle.pk_merge.proofs.StreamLemmas.{given_last}
use Rattle.pk_merge.proofs.streaming.write_index.Goals as goal

pub returns-clause-last : goal.returns-clause-last
returns-clause-last g c = λ honest. given_last c.offer.result _ _ _ (c.offer.ensures.there honest)
