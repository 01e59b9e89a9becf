-- The bit length of four lanes, from their bits together.
use Rattle.pk_lanes.proofs.WidthLemmas.{greatest_fits, greatest_least}
use Rattle.pk_lanes.proofs.questions.greatest.Goals as goal

pub returns-clause-fits : goal.returns-clause-fits
returns-clause-fits c = greatest_fits c.args.all c.fits-all.0 c.fits-all.1

pub returns-clause-least : goal.returns-clause-least
returns-clause-least c = greatest_least c.args.all c.fits-all.0 c.fits-all.1
