-- The text of an entry.
use Rattle.std.proofs.Common.{◌∙◌, sym, ap, subst, arith, Err, List, ℕ, ◌+◌, ◌*◌, take, drop, Result}
use Rattle.std.specs.Prelude.{IsUtf8, String}
use Rattle.std.specs.Global.{Vec}
use Rattle.std.specs.declared.alloc.Global.{Global}
use Rattle.std.proofs.lemmas.Result.{err_from_is_err_and}
use Rattle.pk_posting.specs.declared.fault.ReadFault.{ReadFault}
use Rattle.pk_segment.specs.Reading.{DocTextAs}
use Rattle.pk_segment.proofs.SegmentLemmas.{text_in, text_there}
use Rattle.pk_segment.proofs.ReadLemmas.{cause_of, utf8_in}
use Rattle.pk_segment.proofs.segment.Segment.text_at.Goals as goal

pub returns-then-from-clause-spelled : goal.returns-then-from-clause-spelled
returns-then-from-clause-spelled g c = λ honest docs kind i is of lt says.
    let there = (text_in docs i 0 lt).0 in
    omega (arith, there, says.at_is, says.len_is, of.texts_is, c.if-from.true, c.from.ensures, c.from-2.ensures, c.from-3.ensures)

pub returns-in_err-bytes-clause-spelled : goal.returns-in_err-bytes-clause-spelled
returns-in_err-bytes-clause-spelled g c = λ honest docs kind i is of lt says.
    let content = g.S.ByteSource.content in
    let found = err_from_is_err_and c.from_residual.result c.from_residual.ensures.1 in
    let there = (text_there (content c.args.source.now) docs kind i c.args.entry.number c.args.entry.at c.args.entry.len is lt says).0 in
    subst (λ (r : Result (String Global) ReadFault). DocTextAs docs i r) (sym found.1)
    (cause_of found.0 (λ same. absurd (omega (arith, there, of.count_is, c.in_err-bytes.ensures.damaged (ap Err (sym found.2 ∙ same))))))

pub returns-in-Ok-clause-spelled : goal.returns-in-Ok-clause-spelled
returns-in-Ok-clause-spelled g c = λ honest docs kind i is of lt says.
    let content = g.S.ByteSource.content in
    let e = c.args.entry in
    let there = (text_there (content c.args.source.now) docs kind i e.number e.at e.len is lt says).1 in
    let start = ap (λ (n : ℕ). take e.len (drop (24 + 12 * n + e.at) (content c.args.source.now))) of.count_is in
    ap (λ (v : Vec ℕ). v.items) c.in-Ok.ensures.ok ∙ c.in_ok-bytes.ensures.value honest ∙ start ∙ there

pub returns-clause-spelled : goal.returns-clause-spelled
returns-clause-spelled g c = λ honest docs kind i is of lt says.
    let content = g.S.ByteSource.content in
    let e = c.args.entry in
    let there = (text_there (content c.args.source.now) docs kind i e.number e.at e.len is lt says).1 in
    let start = ap (λ (n : ℕ). take e.len (drop (24 + 12 * n + e.at) (content c.args.source.now))) of.count_is in
    let text = c.in_ok-bytes.ensures.value honest ∙ start ∙ there in
    let read = c.in-Err.ensures.succeeds (subst (λ (x : List ℕ). IsUtf8 x) (sym text) (utf8_in docs i lt is.are.utf8)) in
    cc (read)
