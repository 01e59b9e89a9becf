-- Nothing is unpacked at first, and the whole block after 32 vectors.
use Rattle.pk_lanes.proofs.UnpackingLemmas.{unpacked_none, unpacked_all}
use Rattle.pk_lanes.proofs.unpacking.unpack_at.Goals as goal

pub put_eight-requires-clause-front : goal.put_eight-requires-clause-front
put_eight-requires-clause-front g c = unpacked_none _ _ _

pub returns : goal.returns
returns g c = unpacked_all c.args.bytes.now g.row.B c.put_eight-4.new.xs c.requires.room c.put_eight-4.array_long c.put_eight-4.ensures
