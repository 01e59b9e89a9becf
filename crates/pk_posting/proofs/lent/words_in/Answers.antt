use Rattle.std.proofs.Common.{◌+◌, ◌-◌, ◌*◌, ◌∙◌, arith}
use Rattle.pk_posting.proofs.LentLemmas.{word_lent}
use Rattle.pk_posting.proofs.lent.words_in.Goals as goal

pub returns-clause-value : goal.returns-clause-value
returns-clause-value g c h = record {
  zero = c.words_of.ensures.zero;
  value = λ i l m. c.words_of.ensures.value i l m
      ∙ word_lent _ c.args.place (4 * (c.args.to - c.args.from)) (20 * c.args.k + 4 * c.args.from - 12) c.in_ok-stretch.stretch.now (4 * (i - c.args.from)) _ (record { inside = omega arith; is = c.in_ok-stretch.ensures.value h }) (omega arith) (omega arith);
}
