use Rattle.std.proofs.Common.{◌∙◌}
use Rattle.pk_posting.proofs.PartLemmas.{last_is}
use Rattle.pk_posting.proofs.parts.last_in.Goals as goal

pub returns-clause-spelled : goal.returns-clause-spelled
returns-clause-spelled g c h ys l = c.in_ok-last.ensures.value h ∙ last_is _ c.args.shape ys c.args.k l c.requires.one
