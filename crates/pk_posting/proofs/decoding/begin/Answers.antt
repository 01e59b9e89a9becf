use Rattle.std.proofs.Common.{◌+◌, ◌-◌, ◌∙◌, arith}
use Rattle.pk_posting.proofs.BlockLemmas.{get_part}
use Rattle.pk_posting.proofs.ReadingLemmas.{false_is}
use Rattle.pk_posting.proofs.decoding.begin.Goals as goal

pub returns-then-not-is_padded : goal.returns-then-not-is_padded
returns-then-not-is_padded c = record {
  first = c.if-k-ne0.false;
  broken = λ room zeros. false_is c.is_padded.result
      (c.is_padded.ensures.1 (λ j l m. get_part c.args.at (c.args.at + 16 - c.args.at) c.args.bytes.now j (omega (arith, l)) ∙ zeros j l m)) c.if-not-is_padded.true;
}
