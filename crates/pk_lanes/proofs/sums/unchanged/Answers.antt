-- At width 0 each difference is 0.
use Rattle.pk_lanes.proofs.UnpackingLemmas.{packed_zeros}
use Rattle.pk_lanes.proofs.sums.unchanged.Goals as goal

pub returns : goal.returns
returns c = (_, packed_zeros c.args.bytes.now c.requires, c.restore.ensures)
