-- What the dictionary says is the word's entry where it is the documents'.
use Rattle.std.proofs.Common.{◌≡◌, ◌∙◌, sym}
use Rattle.pk_posting.specs.declared.source.SourceFault.TheVariants as source
use Rattle.pk_segment.proofs.ListingLemmas.{is_there}
use Rattle.pk_segment.proofs.ReadLemmas.{cause_read}
use Rattle.pk_segment.specs.Indexed.{items_of}
use Rattle.pk_lookup.proofs.listed.look_up_word.Goals as goal

pub returns-in-Ok-clause-entry : goal.returns-in-Ok-clause-entry
returns-in-Ok-clause-entry g c = λ honest docs is at.
    let there = is_there _ docs c.args.lies is at in
    c.in-Ok.ensures.found honest (items_of docs) there.inside there.spelled there.count

pub returns-in-Err-clause-entry : goal.returns-in-Err-clause-entry
returns-in-Err-clause-entry g c = λ honest docs is at.
    let there = is_there _ docs c.args.lies is at in
    let disk : c.in-Err.fault ≡ source.Disk = c.in-Err.ensures.found honest (items_of docs) there.inside there.spelled there.count in
    cause_read c.in-Err.fault (λ same. let k : source.Disk ≡ source.Damaged = sym disk ∙ same in cc) c.into.result c.into.ensures
