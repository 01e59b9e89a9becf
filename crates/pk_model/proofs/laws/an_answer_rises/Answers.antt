use Rattle.pk_model.specs.Collection.{is_hit}
use Rattle.pk_model.proofs.CollectionLemmas.{rising-filter, to_hit, from_hit}
use Rattle.pk_model.proofs.laws.an_answer_rises.Goals as goal

pub returns-clause-rising : goal.returns-clause-rising
returns-clause-rising c = λ query collection is. rising-filter (is_hit query) collection.documents is.rising

pub returns-clause-hits : goal.returns-clause-hits
returns-clause-hits c = λ query docs n. (to_hit query docs n, λ h. from_hit query docs n h.0 h.1 h.2 h.3)
