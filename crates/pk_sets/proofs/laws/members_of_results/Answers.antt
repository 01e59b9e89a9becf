-- Members of the results, by those of the lists.
use Rattle.pk_sets.proofs.CallerLemmas.{has_intersection, has_union, has_difference}
use Rattle.pk_sets.proofs.laws.members_of_results.Goals as goal

pub returns-clause-intersection : goal.returns-clause-intersection
returns-clause-intersection c = has_intersection

pub returns-clause-union : goal.returns-clause-union
returns-clause-union c = has_union

pub returns-clause-difference : goal.returns-clause-difference
returns-clause-difference c = has_difference
