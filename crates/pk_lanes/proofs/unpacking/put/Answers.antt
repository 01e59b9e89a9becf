-- One vector more is unpacked.
use Rattle.pk_lanes.proofs.UnpackingLemmas.{unpacked_more}
use Rattle.pk_lanes.proofs.unpacking.put.Goals as goal

pub returns : goal.returns
returns c =
    unpacked_more c.args.bytes.now c.args.b c.args.k c.args.xs.now c.numbers.result c.requires.index c.told-xs c.numbers.ensures.lanes
    c.requires.front c.numbers.ensures.below c.numbers.ensures.bits
