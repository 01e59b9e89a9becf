-- One vector more is unpacked and added to the vector before.
use Rattle.pk_lanes.proofs.SumLemmas.{summed_more}
use Rattle.pk_lanes.proofs.sums.put_sums.Goals as goal

pub returns : goal.returns
returns c seed four old =
    summed_more c.args.bytes.now c.args.b c.args.k seed c.args.xs.now c.args.last c.numbers.result c.add-sums.result
    c.requires.index four c.told-xs c.numbers.ensures.lanes c.add-sums.ensures.lanes old
    c.numbers.ensures.below c.numbers.ensures.bits c.add-sums.ensures.sums
