use Rattle.pk_model.proofs.CollectionLemmas.{keeps}
use Rattle.pk_model.proofs.laws.a_step_keeps_a_collection.Goals as goal

pub returns : goal.returns
returns c = keeps
