-- The bits of a word stay, and those of the next vector follow them.
use Rattle.pk_lanes.proofs.LaneLemmas.{shifted_lows, shifted_highs}
use Rattle.pk_lanes.proofs.packing.with_shifted.Goals as goal

pub returns-clause-lows : goal.returns-clause-lows
returns-clause-lows c i q h k = shifted_lows c.args.s q c.requires k c.args.word c.fits-word.0 c.args.x c.fits-x.0 i h

pub returns-clause-highs : goal.returns-clause-highs
returns-clause-highs c i q h k l clear = shifted_highs c.args.s q k l c.args.word c.fits-word.0 c.args.x c.fits-x.0 i h clear
