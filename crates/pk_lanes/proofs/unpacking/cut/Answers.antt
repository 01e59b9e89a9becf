-- A shift and a mask leave the b bits from bit s on.
use Rattle.std.proofs.Common.{arith}
use Rattle.pk_lanes.proofs.LaneLemmas.{cut_below, cut_bits}
use Rattle.pk_lanes.proofs.unpacking.cut.Goals as goal

pub returns-clause-below : goal.returns-clause-below
returns-clause-below c i h = cut_below c.args.s c.args.b (omega arith) c.args.low c.fits-low.0 i h

pub returns-clause-bits : goal.returns-clause-bits
returns-clause-bits c i j h k = cut_bits c.args.s c.args.b j (omega arith) k c.args.low c.fits-low.0 i h
