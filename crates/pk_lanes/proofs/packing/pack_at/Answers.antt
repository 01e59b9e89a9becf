-- Nothing is packed at first, and the whole block after 32 vectors.
use Rattle.std.proofs.Common.{arith}
use Rattle.pk_lanes.proofs.PackingLemmas.{filling_none, filling_all}
use Rattle.pk_lanes.proofs.LaneLemmas.{zero_lanes}
use Rattle.pk_lanes.proofs.packing.pack_at.Goals as goal

pub take_eight-word-requires-clause-front : goal.take_eight-word-requires-clause-front
take_eight-word-requires-clause-front g c = filling_none _ _ _ _ zero_lanes

pub returns : goal.returns
returns g c = filling_all c.args.xs.now g.row.B c.take_eight-begun.new.out c.take_eight-begun.result (omega arith) c.told-xs c.requires.small c.take_eight-begun.ensures
