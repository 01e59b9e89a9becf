-- Filtered lists and unions rise.
use Rattle.std.proofs.lemmas.List.Kept.{IsStrictlyIncreasing-filter}
use Rattle.std.proofs.Common.{not}
use Rattle.pk_sets.specs.Sets.{has}
use Rattle.pk_sets.proofs.CallerLemmas.{union_rises}
use Rattle.pk_sets.proofs.laws.results_rise.Goals as goal

pub returns-clause-intersection : goal.returns-clause-intersection
returns-clause-intersection c xs ys = IsStrictlyIncreasing-filter (has ys) xs

pub returns-clause-union : goal.returns-clause-union
returns-clause-union c = union_rises

pub returns-clause-difference : goal.returns-clause-difference
returns-clause-difference c xs ys = IsStrictlyIncreasing-filter (λ x. not (has ys x)) xs
