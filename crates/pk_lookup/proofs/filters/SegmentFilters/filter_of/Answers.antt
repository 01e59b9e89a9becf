-- A filter of the dictionary has the words of the documents.
use Rattle.pk_segment.proofs.ListingLemmas.{is_there}
use Rattle.pk_segment.specs.Indexed.{items_of}
use Rattle.pk_lookup.proofs.filters.SegmentFilters.filter_of.Goals as goal

pub returns-in-Ok-clause-words : goal.returns-in-Ok-clause-words
returns-in-Ok-clause-words g c = λ honest docs index at.
    let there = is_there _ docs c.args.lies index at in
    c.in-Ok.ensures.words honest (items_of docs) there.spelled there.count
