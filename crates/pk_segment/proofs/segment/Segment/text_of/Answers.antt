-- The text of the entry that is found.
use Rattle.std.proofs.Common.{◌≡◌, ◌∙◌, sym, ap, ap₂, subst, arith, Err, List, ℕ, Result, string_bytes}
use Rattle.std.specs.Prelude.{IfSome, Option, String}
use Rattle.std.specs.declared.alloc.Global.{Global}
use Rattle.std.proofs.lemmas.Result.{err_from_is_err_and}
use Rattle.std.proofs.lemmas.Str.{IsUtf8-string_bytes}
use Rattle.pk_segment.specs.declared.directory.Entry.{Entry}
use Rattle.pk_posting.specs.declared.fault.ReadFault.{ReadFault}
use Rattle.pk_segment.specs.Directory.{FindsEntry}
use Rattle.pk_segment.specs.Fields.{text_from}
use Rattle.pk_segment.specs.Opened.{count_of}
use Rattle.pk_segment.specs.Texts.{EntrySaid}
use Rattle.pk_segment.specs.Spelling.{SegmentSpells}
use Rattle.pk_segment.specs.Reading.{TextAs, IsNoDamage}
use Rattle.pk_segment.proofs.DirectoryLemmas.{directory_of, within}
use Rattle.pk_segment.proofs.SegmentLemmas.{text_missing}
use Rattle.pk_segment.proofs.ReadLemmas.{cause_read, text_is}
use Rattle.pk_segment.proofs.segment.Segment.text_of.Goals as goal

pub returns-in_err-entry-clause-spelled : goal.returns-in_err-entry-clause-spelled
returns-in_err-entry-clause-spelled g c = λ honest docs kind is of.
    let content = g.S.ByteSource.content in
    let found = err_from_is_err_and c.from_residual.result c.from_residual.ensures.1 in
    let there = within (content c.args.source.now) docs kind (directory_of (content c.args.source.now) docs kind is) in
    subst (λ (r : Result (Option (String Global)) ReadFault). TextAs docs c.args.number r) (sym found.1)
    (cause_read c.in_err-entry.field-0.0 (λ same. absurd (omega (arith, there, of.count_is, c.in_err-entry.ensures.damaged (ap Err same)))) found.0 found.2)

pub returns-in_default-clause-spelled : goal.returns-in_default-clause-spelled
returns-in_default-clause-spelled g c = λ honest docs kind is of.
    let content = g.S.ByteSource.content in
    let found = c.in_ok-entry.ensures.found honest docs kind (directory_of (content c.args.source.now) docs kind is) of in
    sym (text_missing docs c.args.number (subst (λ (o : Option Entry). FindsEntry docs c.args.number o) c.in_default.is found))

pub returns-in_err-text-clause-spelled : goal.returns-in_err-text-clause-spelled
returns-in_err-text-clause-spelled g c = λ honest docs kind is of.
    let content = g.S.ByteSource.content in
    let found = err_from_is_err_and c.from_residual-in_err-text.result c.from_residual-in_err-text.ensures.1 in
    let entry = subst (λ (o : Option Entry). FindsEntry docs c.args.number o) c.in-Some.is (c.in_ok-entry.ensures.found honest docs kind (directory_of (content c.args.source.now) docs kind is) of) in
    let there = subst (λ (x : List ℕ). SegmentSpells x docs kind) (sym (c.in_ok-entry.ensures.left.same honest)) is in
    let cause = c.in_err-text.ensures.spelled honest docs kind entry.0 there of entry.1 entry.3 in
    subst (λ (r : Result (Option (String Global)) ReadFault). TextAs docs c.args.number r) (sym found.1) (subst (λ (f : ReadFault). IsNoDamage f) (sym found.2) cause)

pub returns-clause-spelled : goal.returns-clause-spelled
returns-clause-spelled g c = λ honest docs kind is of.
    let content = g.S.ByteSource.content in
    let entry = subst (λ (o : Option Entry). FindsEntry docs c.args.number o) c.in-Some.is (c.in_ok-entry.ensures.found honest docs kind (directory_of (content c.args.source.now) docs kind is) of) in
    let there = subst (λ (x : List ℕ). SegmentSpells x docs kind) (sym (c.in_ok-entry.ensures.left.same honest)) is in
    text_is docs entry.0 c.args.number _ is.are entry.1 (sym entry.2 ∙ entry.3.number_is) (c.in_ok-text.ensures.spelled honest docs kind entry.0 there of entry.1 entry.3)

pub returns-clause-said : goal.returns-clause-said
returns-clause-said g c = λ honest.
    let bytes = g.S.ByteSource.content c.args.source.now in
    let s = c.args.self.now in
    let entry = subst (λ (o : Option Entry). IfSome o (EntrySaid bytes s c.args.number)) c.in-Some.is (c.in_ok-entry.ensures.said honest) in
    let read = subst (λ (x : List ℕ). string_bytes c.in_ok-text.text ≡ text_from x (count_of s) c.in-Some.entry.at c.in-Some.entry.len) (c.in_ok-entry.ensures.left.same honest) (c.in_ok-text.ensures.text honest) in
    record {
      place = entry.0;
      within = entry.1;
      number_is = entry.2 ∙ entry.3.number_is;
      text_is = read ∙ ap₂ (text_from bytes (count_of s)) entry.3.at_is entry.3.len_is;
      long = c.in_ok-text.ensures.long ∙ entry.3.len_is;
      utf8 = IsUtf8-string_bytes c.in_ok-text.text;
    }
