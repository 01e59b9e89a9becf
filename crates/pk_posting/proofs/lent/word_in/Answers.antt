use Rattle.std.proofs.Common.{arith, ◌∙◌}
use Rattle.pk_posting.proofs.LentLemmas.{word_lent}
use Rattle.pk_posting.proofs.lent.word_in.Goals as goal

pub returns-clause-value : goal.returns-clause-value
returns-clause-value g c h =
    c.word_at.ensures ∙ word_lent _ c.args.place 4 c.args.at c.in_ok-stretch.stretch.now 0 c.args.at (record { inside = omega arith; is = c.in_ok-stretch.ensures.value h }) (omega arith) (omega arith)
