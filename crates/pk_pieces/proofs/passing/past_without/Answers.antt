-- The word stands nowhere before the second place, and enough words lie between the two.
use Rattle.std.proofs.Common.{◌∙◌, sym, arith}
use Rattle.pk_pieces.proofs.PassLemmas.{others_passed, passed_without}
use Rattle.pk_pieces.proofs.passing.past_without.Goals as goal

pub returns-then-has_words-clause-passed : goal.returns-then-has_words-clause-passed
returns-then-has_words-clause-passed c =
    let e = c.next_start-to.ensures in
    let back = c.behind_spaces-back in
    passed_without c.args.bytes.now c.requires.ascii c.args.word.now c.args.ahead c.args.from back.result c.next_start-to.result e.high back.ensures.low c.if-back-to.true
    (sym c.is_joined.ensures ∙ c.if-not-is_joined.true)
    (e.apart (omega (arith, c.if-from-back.true, c.if-back-to.true))) e.none (c.has_words.ensures c.if-has_words.true)

pub returns-then-has_words-clause-next : goal.returns-then-has_words-clause-next
returns-then-has_words-clause-next c =
    let e = c.next_start-to.ensures in
    others_passed c.args.bytes.now c.requires.ascii c.args.word.now c.args.from c.next_start-to.result e.high e.low e.apart e.none

pub returns-clause-next : goal.returns-clause-next
returns-clause-next c =
    let e = c.next_start-to.ensures in
    others_passed c.args.bytes.now c.requires.ascii c.args.word.now c.args.from c.next_start-to.result e.high e.low e.apart e.none
