-- The list stands among those of all words, and these behind the texts.
use Rattle.pk_segment.proofs.IndexLemmas.{leads}
use Rattle.pk_segment.proofs.ListingLemmas.{list_there}
use Rattle.pk_segment.proofs.laws.an_entry_leads_to_its_list.Goals as goal

pub returns-clause-entry : goal.returns-clause-entry
returns-clause-entry c = λ docs word. leads docs word

pub returns-clause-list : goal.returns-clause-list
returns-clause-list c = λ bytes docs word e is found. list_there bytes docs word e is found
