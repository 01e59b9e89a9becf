-- The lanes so far have the width of the numbers so far.
use Rattle.std.proofs.Common.{arith}
use Rattle.pk_lanes.proofs.WidthLemmas.{covers_none, covers_more}
use Rattle.pk_lanes.proofs.LaneLemmas.{zero_lanes}
use Rattle.pk_lanes.proofs.questions.width.Goals as goal

pub vectors-init : goal.vectors-init
vectors-init c = covers_none c.args.xs.now _ zero_lanes

pub vectors-preserved : goal.vectors-preserved
vectors-preserved c =
    covers_more c.vectors.k c.args.xs.now c.vectors.all c.vector.result c.either-all.result c.vectors.invariant c.vector.ensures.value c.either-all.ensures.ors

pub returns-clause-least : goal.returns-clause-least
returns-clause-least c b f = c.greatest.ensures.least b (λ i h. c.vectors.invariant.least b (λ j l. f j (omega arith)) i h)
