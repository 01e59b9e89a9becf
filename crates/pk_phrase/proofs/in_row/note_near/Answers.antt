-- The first text lies at the front of the span, and the span in the source.
use Rattle.std.proofs.Common.{◌∙◌, ℕ, take, drop, sym, subst, ap}
use Rattle.pk_phrase.proofs.InRowLemmas.{fault_passed, text_first}
use Rattle.std.proofs.lemmas.Result.{on_ok_weaker}
use Rattle.pk_phrase.proofs.SaidLemmas.{text_front, texts_one, texts_then}
use Rattle.pk_phrase.specs.Said.{HaveTexts}
use Rattle.pk_phrase.proofs.in_row.note_near.Goals as goal

pub returns-in_err-note_bytes-clause-kept : goal.returns-in_err-note_bytes-clause-kept
returns-in_err-note_bytes-clause-kept g c = λ honest docs within lies so_far.
    let first = text_first _ _ docs _ _ _ lies (c.in_ok-bytes.ensures.value honest) c.span_len-len.ensures.text in
    fault_passed _ _ _ c.from_residual-in_err-note_bytes.ensures.1 (c.in_err-note_bytes.ensures.kept _ docs within first so_far)

pub returns-clause-kept : goal.returns-clause-kept
returns-clause-kept g c = λ honest docs within lies so_far.
    let content = g.S.ByteSource.content c.args.source.now in
    let value = c.in_ok-bytes.ensures.value honest in
    let first = text_first _ _ docs _ _ _ lies value c.span_len-len.ensures.text in
    c.note_within.ensures.kept content docs within
    (record { value = value ∙ ap (λ (n : ℕ). take n (drop c.args.place.0 content)) (sym c.in_ok-bytes.ensures.lent) })
    (c.in_ok-note_bytes.ensures.kept content docs within first so_far)

pub returns-clause-read : goal.returns-clause-read
returns-clause-read g c = λ honest read lies.
    let content = g.S.ByteSource.content c.args.source.now in
    let s = c.args.search.now.segment.now in
    let numbers = c.args.search.now.numbers.now in
    let first = texts_one content s numbers c.args.hits.now.next c.args.candidate.number c.requires.next.number (text_front content _ s _ _ c.args.place lies (c.in_ok-bytes.ensures.value honest) c.in_ok-bytes.ensures.lent c.span_len-len.ensures.text c.in_ok-note_bytes.ensures.read) in
    on_ok_weaker _ (λ more. texts_then content s numbers _ _ _ (subst (HaveTexts content s numbers c.args.hits.now.next) (sym c.in_ok-note_bytes.ensures.next) first) more) (c.note_within.ensures.read content read (record { value = c.in_ok-bytes.ensures.value honest ∙ ap (λ (n : ℕ). take n (drop c.args.place.0 content)) (sym c.in_ok-bytes.ensures.lent) }))
