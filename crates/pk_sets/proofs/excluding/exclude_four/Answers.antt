-- Four steps, one after another.
use Rattle.pk_sets.proofs.CursorLemmas.{reaches_then}
use Rattle.pk_sets.proofs.excluding.exclude_four.Goals as goal

pub returns-clause-reaches : goal.returns-clause-reaches
returns-clause-reaches c =
    reaches_then c.exclude_one-one.ensures.reaches
    (reaches_then c.exclude_one-two.ensures.reaches
    (reaches_then c.exclude_one-three.ensures.reaches c.exclude_one.ensures.reaches))
