-- The dictionary of documents lies in their segment.
use Rattle.std.proofs.Common.{arith}
use Rattle.pk_segment.proofs.ListingLemmas.{is_there}
use Rattle.pk_join.proofs.reading.words_of.Goals as goal

pub returns-then-from-clause-placed : goal.returns-then-from-clause-placed
returns-then-from-clause-placed g c = λ honest docs is of.
    let there = is_there _ docs c.in_ok-place.place is (c.in_ok-place.ensures.place honest docs is of) in
    absurd (omega (arith, there.inside))
