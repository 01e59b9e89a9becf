-- The document of the entry that is read.
use Rattle.std.proofs.Common.{◌≡◌, ◌<◌, sym, ap, subst, arith, Err, List, ℕ, length, Result, string_bytes}
use Rattle.std.specs.Prelude.{IfOk}
use Rattle.std.proofs.lemmas.Result.{err_from_is_err_and}
use Rattle.pk_model.specs.declared.documents.Document.{Document}
use Rattle.pk_posting.specs.declared.fault.ReadFault.{ReadFault}
use Rattle.pk_segment.specs.Fields.{entry_field, text_from}
use Rattle.pk_segment.specs.Opened.{count_of}
use Rattle.pk_segment.specs.Spelling.{SegmentSpells}
use Rattle.pk_segment.specs.Reading.{DocumentAs}
use Rattle.pk_segment.proofs.DirectoryLemmas.{directory_of, says, within}
use Rattle.pk_segment.proofs.DocumentLemmas.{document_said}
use Rattle.pk_segment.proofs.ReadLemmas.{cause_read}
use Rattle.pk_segment.proofs.segment.Segment.document_at.Goals as goal

pub returns-in_err-entry-clause-spelled : goal.returns-in_err-entry-clause-spelled
returns-in_err-entry-clause-spelled g c = λ honest docs kind is of.
    let content = g.S.ByteSource.content in
    let found = err_from_is_err_and c.from_residual.result c.from_residual.ensures.1 in
    let there = within (content c.args.source.now) docs kind (directory_of (content c.args.source.now) docs kind is) in
    subst (λ (r : Result Document ReadFault). DocumentAs docs c.args.i r) (sym found.1)
    (cause_read c.in_err-entry.field-0.0 (λ same. absurd (omega (arith, there, of.count_is, c.requires, c.in_err-entry.ensures.damaged.0 (ap Err same)))) found.0 found.2)

pub returns-clause-spelled : goal.returns-clause-spelled
returns-clause-spelled g c = λ honest docs kind is of.
    let content = g.S.ByteSource.content in
    let lt : c.args.i < length docs = omega (arith, of.count_is, c.requires) in
    let entry = says (content c.args.source.now) docs kind c.args.i c.in_ok-entry.entry (directory_of (content c.args.source.now) docs kind is) lt (c.in_ok-entry.ensures.value honest) in
    let there = subst (λ (x : List ℕ). SegmentSpells x docs kind) (sym (c.in_ok-entry.ensures.left.same honest)) is in
    c.document_of.ensures.spelled honest docs kind c.args.i there of lt entry

pub returns-clause-said : goal.returns-clause-said
returns-clause-said g c = λ honest.
    let bytes = g.S.ByteSource.content c.args.source.now in
    let s = c.args.self.now in
    let entry = c.in_ok-entry.entry in
    let text = subst (λ (x : List ℕ). IfOk c.document_of.result (λ (d : Document). string_bytes d.text ≡ text_from x (count_of s) entry.at entry.len)) (c.in_ok-entry.ensures.left.same honest) (c.document_of.ensures.text honest) in
    document_said bytes s (entry_field bytes c.args.i) entry c.document_of.result (c.in_ok-entry.ensures.value honest) text c.document_of.ensures.long c.document_of.ensures.number
