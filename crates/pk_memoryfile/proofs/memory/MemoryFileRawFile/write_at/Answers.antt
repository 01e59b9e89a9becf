-- The bytes took the front, and the file tells it or not.
use Rattle.std.proofs.Common.{◌≤◌, length, arith}
use Rattle.pk_memoryfile.specs.Record.{image_now}
use Rattle.pk_memoryfile.proofs.Front.{wrote_ending, wrote_front}
use Rattle.pk_memoryfile.proofs.memory.MemoryFileRawFile.write_at.Goals as goal

pub returns-clause-wrote : goal.returns-clause-wrote
returns-clause-wrote c = λ h fits.
    let le : c.min-n.result ≤ length c.args.bytes.now = omega arith in
    let e = c.in-Ok.ensures in
    wrote_ending _ _ _ _ c.args.at c.args.bytes.now c.min-n.result c.end_transfer-2.result _ _ c.end_transfer-2.ensures.count
    (wrote_front _ _ _ _ c.args.at c.args.bytes.now c.min-n.result _ _ fits le e.bytes e.is_open (record { later = e.images.later; each = e.images.each }) e.known (λ image now. image_now _ _ _ _ now))
