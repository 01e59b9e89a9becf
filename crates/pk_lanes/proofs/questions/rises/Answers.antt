-- All four lanes rise exactly where the mask is full.
use Rattle.pk_lanes.proofs.OrderLemmas.{all_below}
use Rattle.pk_lanes.proofs.questions.rises.Goals as goal

pub returns : goal.returns
returns c = all_below c.args.before c.fits-before.0 c.args.here c.fits-here.0
