-- The text is that of the document.
use Rattle.std.proofs.Common.{◌∙◌, Some, String, Global, string_bytes, sym, subst, ap}
use Rattle.std.specs.Prelude.{IfSome, Option}
use Rattle.std.specs.Option.{option_map}
use Rattle.pk_model.specs.Collection.{numbers_of}
use Rattle.pk_sets.specs.Sets.{has}
use Rattle.pk_segment.specs.Texts.{TextSaid}
use Rattle.pk_phrase.proofs.InRowLemmas.{none_missing}
use Rattle.pk_phrase.proofs.in_row.note_alone.Goals as goal

pub returns-in_default-clause-kept : goal.returns-in_default-clause-kept
returns-in_default-clause-kept g c = λ honest docs within so_far.
    let live = ap (has (numbers_of docs)) c.requires.number ∙ within.live c.args.hits.now.next 0 c.requires.some in
    none_missing docs c.args.candidate.number c.in_ok-found.found live (c.in_ok-found.ensures.is honest docs within.spelled within.segment within.directory) c.in_default.is

pub returns-clause-kept : goal.returns-clause-kept
returns-clause-kept g c = λ honest docs within so_far.
    let says = c.in_ok-found.ensures.is honest docs within.spelled within.segment within.directory in
    let same = sym says ∙ ap (option_map (λ (t : String Global). string_bytes t)) c.in-Some.is ∙ ap Some (sym c.as_str.ensures.value) in
    c.in_ok-note_text.ensures.kept _ docs within same so_far

pub returns-clause-read : goal.returns-clause-read
returns-clause-read g c = λ honest read.
    let bytes = g.S.ByteSource.content c.args.source.now in
    let search = c.args.search.now in
    (_, subst (λ (found : Option (String Global)). IfSome found (λ text. TextSaid bytes search.segment.now c.args.candidate.number (string_bytes text))) c.in-Some.is (c.in_ok-found.ensures.said honest read))
