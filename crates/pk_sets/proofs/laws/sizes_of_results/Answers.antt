-- How many numbers the results have.
use Rattle.pk_sets.proofs.PartLemmas.{rising_all, size_intersection}
use Rattle.pk_sets.proofs.CallerLemmas.{union_size, union_at_most, difference_size}
use Rattle.pk_sets.proofs.laws.sizes_of_results.Goals as goal

pub returns-clause-intersection : goal.returns-clause-intersection
returns-clause-intersection c = size_intersection

pub returns-clause-union : goal.returns-clause-union
returns-clause-union c xs ys h k = union_size xs ys (rising_all xs h) (rising_all ys k)

pub returns-clause-at_most : goal.returns-clause-at_most
returns-clause-at_most c = union_at_most

pub returns-clause-difference : goal.returns-clause-difference
returns-clause-difference c = difference_size
