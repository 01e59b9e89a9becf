-- A sum of vectors has four lanes.
use Rattle.std.proofs.Common.{arith, ◌∙◌}
use Rattle.std.proofs.lemmas.Simd.{length-zip2}
use Rattle.pk_lanes.proofs.vectors.add.Goals as goal

pub returns-clause-lanes : goal.returns-clause-lanes
returns-clause-lanes c = length-zip2 _ c.args.a c.args.b (omega (arith, c.fits-a.0, c.fits-b.0)) ∙ c.fits-a.0
