-- The entry at the place has the number, so the text there is that of its document.
use Rattle.std.proofs.Common.{◌∙◌, arith, sym, subst}
use Rattle.std.proofs.lemmas.Str.{IsUtf8-string_bytes}
use Rattle.std.specs.Prelude.{IfSome, Option}
use Rattle.pk_segment.specs.declared.directory.Directory.{Directory}
use Rattle.pk_segment.specs.Directory.{IsDirectoryOf}
use Rattle.pk_phrase.proofs.InRowLemmas.{text_got}
use Rattle.pk_phrase.proofs.SaidLemmas.{said_there}
use Rattle.pk_phrase.specs.Said.{DirectoryRead}
use Rattle.pk_phrase.proofs.in_row.text_at.Goals as goal

pub returns-then-number-clause-is : goal.returns-then-number-clause-is
returns-then-number-clause-is g c = λ honest docs is of whole.
    let here = subst (λ (o : Option Directory). IfSome o (λ d. IsDirectoryOf d docs 2)) c.in-Some.is whole in
    let got = c.in_ok-text.ensures.spelled honest docs 2 is of here in
    text_got docs c.args.candidate.at c.args.candidate.number _ is.are got (c.in_ok-text.ensures.number ∙ sym c.number.ensures.value ∙ c.if-number.true)

pub returns-then-number-clause-said : goal.returns-then-number-clause-said
returns-then-number-clause-said g c = λ honest read.
    let bytes = g.S.ByteSource.content c.args.source.now in
    let s = c.args.search.now.segment.now in
    let here = subst (DirectoryRead bytes s) c.in-Some.is read in
    said_there bytes s c.in-Some.directory c.args.candidate.at c.args.candidate.number _ here (omega (arith, c.len.ensures.value, c.if-at-len.true)) (sym c.if-number.true ∙ c.number.ensures.value) (c.in_ok-text.ensures.text honest) c.in_ok-text.ensures.long (IsUtf8-string_bytes c.in_ok-text.field-0.text)
