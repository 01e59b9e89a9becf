-- Four steps, one after another.
use Rattle.pk_sets.proofs.CursorLemmas.{reaches_then}
use Rattle.pk_sets.proofs.uniting.unite_four.Goals as goal

pub returns-clause-reaches : goal.returns-clause-reaches
returns-clause-reaches c =
    reaches_then c.unite_one-one.ensures.reaches
    (reaches_then c.unite_one-two.ensures.reaches
    (reaches_then c.unite_one-three.ensures.reaches c.unite_one.ensures.reaches))
