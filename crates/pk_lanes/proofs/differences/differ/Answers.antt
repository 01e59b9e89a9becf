-- The differences of the vectors so far, and the vector before the next.
use Rattle.std.proofs.Common.{arith, ◌∙◌, ◌-◌, ◌*◌}
use Rattle.pk_lanes.proofs.DifferenceLemmas.{differs_none, differs_more}
use Rattle.pk_lanes.proofs.UnpackingLemmas.{length_written}
use Rattle.pk_lanes.proofs.differences.differ.Goals as goal

pub vectors-init : goal.vectors-init
vectors-init c = (c.told-ds, rw (c.start-before.ensures.value) (differs_none c.args.seed.now c.args.ds.now c.args.xs.now c.told-seed))

pub vectors-preserved : goal.vectors-preserved
vectors-preserved c = (
  length_written (4 * c.vectors.k) (128 - 4 * c.vectors.k) c.vectors.ds c.subtract.result (omega arith) ∙ c.vectors.invariant.0,
  differs_more c.vectors.k c.args.seed.now c.vectors.ds c.args.xs.now c.vectors.before c.vector-here.result c.subtract.result (omega arith) c.told-seed c.vectors.invariant.0 c.subtract.ensures.lanes
      c.vectors.invariant.1 c.vector-here.ensures.value c.subtract.ensures.sums,
)

pub returns : goal.returns
returns c = record { step = λ i h. c.vectors.invariant.1.step i (omega arith) }
