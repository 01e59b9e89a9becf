-- The eight stand after what was written.
use Rattle.std.proofs.Common.{arith, ◌+◌}
use Rattle.std.specs.Simd.Lanes.{chunk}
use Rattle.std.proofs.lemmas.Simd.{take_more_put_chunk, length-chunk}
use Rattle.pk_sets.proofs.writing.put_eight.Goals as goal

pub returns : goal.returns
returns c =
    let eight = chunk c.args.from 8 c.args.xs.now in
    take_more_put_chunk c.args.n c.args.out.now eight (c.args.n + 8) (omega (arith, length-chunk c.args.from 8 c.args.xs.now c.requires.left)) c.requires.room
