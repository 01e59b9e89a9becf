-- The numbers of the vectors so far, and the last of these.
use Rattle.std.proofs.Common.{arith, ◌∙◌, ◌-◌, ◌*◌}
use Rattle.pk_lanes.proofs.DifferenceLemmas.{restores_none, restores_more}
use Rattle.pk_lanes.proofs.UnpackingLemmas.{length_written}
use Rattle.pk_lanes.proofs.differences.restore.Goals as goal

pub vectors-init : goal.vectors-init
vectors-init c = (c.told-xs, rw (c.start-last.ensures.value) (restores_none c.args.seed.now c.args.ds.now c.args.xs.now c.told-seed))

pub vectors-preserved : goal.vectors-preserved
vectors-preserved c = (
  length_written (4 * c.vectors.k) (128 - 4 * c.vectors.k) c.vectors.xs c.add-last.result (omega arith) ∙ c.vectors.invariant.0,
  restores_more c.vectors.k c.args.seed.now c.args.ds.now c.vectors.xs c.vectors.last c.vector.result c.add-last.result (omega arith) c.told-seed c.vectors.invariant.0 c.add-last.ensures.lanes
      c.vectors.invariant.1 c.vector.ensures.value c.add-last.ensures.sums,
)

pub returns : goal.returns
returns c = record { step = λ i h. c.vectors.invariant.1.step i (omega arith) }
