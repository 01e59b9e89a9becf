-- Where nothing is begun, words are skipped by the rarest word, and then by the first.
use Rattle.std.proofs.Common.{◌≡◌, ◌∙◌, ◌<◌, length, subst, sym, arith}
use Rattle.std.proofs.lemmas.List.{length-map}
use Rattle.pk_words.specs.Rows.{texts}
use Rattle.pk_words.specs.Skips.{MaySkip}
use Rattle.pk_words.proofs.RowLemmas.{text_of}
use Rattle.pk_words.proofs.SkipLemmas.{others_skipped}
use Rattle.pk_words.proofs.sought.skip.Goals as goal

pub returns-clause-skips : goal.returns-clause-skips
returns-clause-skips c =
    let words = c.args.sought.now.words.now in
    let some : 0 < length words = omega (arith, c.requires.within) in
    let first = others_skipped (texts words) c.args.bytes.now c.as_bytes.result.now _ c.past_others.result (rw length-map some) (c.as_bytes.ensures.value ∙ text_of words 0 _ some) c.past_others.ensures.passed in
    let none : c.args.begun ≡ 0 = omega (arith, c.if-begun-gt0.false) in
    subst (λ n. MaySkip (texts words) c.args.bytes.now n c.args.from c.past_others.result) (sym none) (λ rest. c.skip_to_rarest-at.ensures.skips rest ∙ first rest)
