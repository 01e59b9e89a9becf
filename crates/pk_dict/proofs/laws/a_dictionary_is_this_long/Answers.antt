-- By the lengths of their parts.
use Rattle.pk_dict.proofs.Room.{as_long, longer, terms_within}
use Rattle.pk_dict.proofs.laws.a_dictionary_is_this_long.Goals as goal

pub returns-clause-terms : goal.returns-clause-terms
returns-clause-terms c = λ es. as_long es

pub returns-clause-each : goal.returns-clause-each
returns-clause-each c = λ es. terms_within es

pub returns-clause-more : goal.returns-clause-more
returns-clause-more c = λ es fs. longer es fs
