-- Intersections and unions, turned.
use Rattle.pk_sets.proofs.PartLemmas.{rising_all}
use Rattle.pk_sets.proofs.IntersectionLemmas.{intersection_turned}
use Rattle.pk_sets.proofs.CallerLemmas.{union_turned}
use Rattle.pk_sets.proofs.laws.either_list_may_be_first.Goals as goal

pub returns-clause-intersection : goal.returns-clause-intersection
returns-clause-intersection c xs ys h k = intersection_turned xs ys (rising_all xs h) (rising_all ys k)

pub returns-clause-union : goal.returns-clause-union
returns-clause-union c xs ys h k = union_turned xs ys (rising_all xs h) (rising_all ys k)
