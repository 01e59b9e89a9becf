-- No page has the number that stands at each place.
use Rattle.pk_pages.specs.Missed.{most_noted}
use Rattle.pk_pages.proofs.MissLemmas.{none_noted}
use Rattle.pk_pages.proofs.misses.no_misses.Goals as goal

pub returns-in-Ok-clause-none : goal.returns-in-Ok-clause-none
returns-in-Ok-clause-none c = none_noted c.in-Ok.missed.items most_noted _ (c.in-Ok.ensures.items_if_clones_equal (λ y same. same))
