-- The entry lies in the text and cuts no character.
use Rattle.std.proofs.Common.{◌∙◌, sym, ap, arith, Some, slice_index_or}
use Rattle.std.proofs.lemmas.Str.{IsCharBoundary-from_take}
use Rattle.pk_terms.specs.declared.terms.Entry.{Entry}
use Rattle.pk_terms.proofs.TableLemmas.{word_there}
use Rattle.pk_terms.proofs.terms.word_of.Goals as goal

abbrev none : Entry
none = record { fingerprint = 0; start = 0; end = 0 }

pub range-requires-clause-start_boundary : goal.range-requires-clause-start_boundary
range-requires-clause-start_boundary c = λ _.
    let part = c.requires.parts c.args.place none c.requires.within in
    let ordered = part.ordered in
    let within = part.within in
    IsCharBoundary-from_take c.args.text.now (slice_index_or c.args.entries.now c.args.place none).start c.utf8.text (omega arith) part.start

pub range-requires-clause-end_boundary : goal.range-requires-clause-end_boundary
range-requires-clause-end_boundary c =
    let part = c.requires.parts c.args.place none c.requires.within in
    IsCharBoundary-from_take c.args.text.now (slice_index_or c.args.entries.now c.args.place none).end c.utf8.text part.within part.end

pub returns : goal.returns
returns c =
    word_there c.args.entries.now c.args.text.now c.args.place none c.requires.within ∙ ap Some (sym c.range.ensures.value)
