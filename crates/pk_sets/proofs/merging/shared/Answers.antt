-- A bit is set where a lane is one of the four others.
use Rattle.pk_sets.proofs.LaneLemmas.{mask_has}
use Rattle.pk_sets.proofs.merging.shared.Goals as goal

pub returns : goal.returns
returns c = mask_has c.args.va c.fits-va.0 c.args.vb c.fits-vb.0
