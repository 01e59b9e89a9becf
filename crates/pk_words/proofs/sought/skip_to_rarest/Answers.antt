-- The word so far ahead of those passed is not the row's.
use Rattle.std.proofs.Common.{◌∙◌, ◌<◌, length, arith}
use Rattle.std.proofs.lemmas.List.{length-map}
use Rattle.pk_words.specs.Rows.{texts}
use Rattle.pk_words.proofs.RowLemmas.{text_of}
use Rattle.pk_words.proofs.SkipLemmas.{without_skipped}
use Rattle.pk_words.proofs.sought.skip_to_rarest.Goals as goal

pub returns-clause-skips : goal.returns-clause-skips
returns-clause-skips c =
    let words = c.args.sought.now.words.now in
    let rarest = c.args.sought.now.rarest in
    let l : rarest < length words = omega arith in
    without_skipped (texts words) c.args.bytes.now c.as_bytes.result.now rarest c.args.from _ (rw length-map l) (c.as_bytes.ensures.value ∙ text_of words rarest _ l) c.past_without.ensures.passed
