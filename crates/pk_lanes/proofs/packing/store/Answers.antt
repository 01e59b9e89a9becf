-- The words stand at their place, and those before it stay.
use Rattle.pk_lanes.proofs.WordLemmas.{stored_here, stored_before}
use Rattle.pk_lanes.proofs.packing.store.Goals as goal

pub returns-clause-here : goal.returns-clause-here
returns-clause-here c = stored_here c.args.w c.args.out.now c.args.words c.requires c.fits-words.1

pub returns-clause-before : goal.returns-clause-before
returns-clause-before c = stored_before c.args.w c.args.out.now c.args.words
