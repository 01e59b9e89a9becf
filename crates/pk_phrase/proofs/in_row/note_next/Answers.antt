-- The text of the next number is read with others, or by itself.
use Rattle.std.proofs.Common.{subst, sym}
use Rattle.pk_phrase.proofs.SaidLemmas.{ok_both, texts_one}
use Rattle.pk_phrase.specs.Said.{HaveTexts}
use Rattle.pk_phrase.proofs.in_row.note_next.Goals as goal

pub returns-clause-read : goal.returns-clause-read
returns-clause-read g c = λ honest read.
    let bytes = g.S.ByteSource.content c.args.source.now in
    let search = c.args.search.now in
    ok_both _ (λ has next. subst (HaveTexts bytes search.segment.now search.numbers.now c.args.hits.now.next) (sym next)
    (texts_one bytes search.segment.now search.numbers.now _ _ c.next_candidate-candidate.ensures.number has)) (c.note_alone.ensures.read honest read) c.note_alone.ensures.next
