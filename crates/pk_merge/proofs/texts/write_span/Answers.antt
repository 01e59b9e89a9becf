-- The documents of a span are the first ones.
use Rattle.std.proofs.Common.{take}
use Rattle.pk_merge.proofs.SpanLemmas.{kept_take}
use Rattle.pk_merge.proofs.texts.write_span.Goals as goal

pub returns-clause-bytes : goal.returns-clause-bytes
returns-clause-bytes g c = λ honest docs are room.
    let n = c.args.span.count in
    c.write_near.ensures.bytes honest (take n docs)
    (kept_take (g.D.Disk.content c.args.disk.now) n c.args.documents.now docs are) room
