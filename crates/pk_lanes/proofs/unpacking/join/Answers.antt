-- The bits of a number that two words share.
use Rattle.std.proofs.Common.{arith, Fits, w32}
use Rattle.std.proofs.lemmas.Simd.{Each1-get_or}
use Rattle.pk_lanes.proofs.LaneLemmas.{join_below, join_lows, join_highs}
use Rattle.pk_lanes.proofs.unpacking.join.Goals as goal

pub returns-clause-below : goal.returns-clause-below
returns-clause-below c i h = join_below c.args.s c.args.b (omega arith) c.args.low c.fits-low.0 c.args.high c.fits-high.0 i h

pub returns-clause-lows : goal.returns-clause-lows
returns-clause-lows c i j h k = join_lows c.args.s c.args.b j (omega arith) (omega arith) k c.args.low c.fits-low.0 c.args.high c.fits-high.0 i h

pub returns-clause-highs : goal.returns-clause-highs
returns-clause-highs c i j h k l = join_highs c.args.s c.args.b j (omega arith) k (omega arith) l c.args.low c.fits-low.0 (λ p q. (Each1-get_or (Fits w32) c.args.low p 0 (omega arith) c.fits-low.1).fits) c.args.high c.fits-high.0 i h
