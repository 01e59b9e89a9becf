-- At width 0 each number is 0.
use Rattle.pk_lanes.proofs.UnpackingLemmas.{packed_zeros}
use Rattle.pk_lanes.proofs.unpacking.zeros.Goals as goal

pub returns : goal.returns
returns c = packed_zeros c.args.bytes.now c.requires
