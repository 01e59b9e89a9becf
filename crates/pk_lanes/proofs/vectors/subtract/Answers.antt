-- A difference of vectors has four lanes, and gives the first again.
use Rattle.std.proofs.Common.{arith, ◌∙◌, Fits, w32}
use Rattle.std.proofs.lemmas.Simd.{length-zip2, Each1-get_or}
use Rattle.pk_lanes.proofs.DifferenceLemmas.{sub_sums}
use Rattle.pk_lanes.proofs.vectors.subtract.Goals as goal

pub returns-clause-lanes : goal.returns-clause-lanes
returns-clause-lanes c = length-zip2 _ c.args.a c.args.b (omega (arith, c.fits-a.0, c.fits-b.0)) ∙ c.fits-a.0

pub returns-clause-sums : goal.returns-clause-sums
returns-clause-sums c =
    sub_sums c.args.a c.fits-a.0 (λ i h. (Each1-get_or (Fits w32) c.args.a i 0 (omega arith) c.fits-a.1).fits) c.args.b c.fits-b.0 (λ i h. (Each1-get_or (Fits w32) c.args.b i 0 (omega arith) c.fits-b.1).fits)
