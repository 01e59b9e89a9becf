use Rattle.pk_model.proofs.TermLemmas.{are_terms, one_terms}
use Rattle.pk_model.proofs.laws.terms_are_one_list.Goals as goal

pub returns-clause-terms : goal.returns-clause-terms
returns-clause-terms c = λ docs. are_terms docs

pub returns-clause-one : goal.returns-clause-one
returns-clause-one c = λ words docs is. one_terms words docs is
