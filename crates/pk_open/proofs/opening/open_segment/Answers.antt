-- Where the segment's bytes are damaged, it opens as none.
use Rattle.std.proofs.Common.{◌∙◌, ap, Err}
use Rattle.pk_disk.specs.Units.{extent_bytes}
use Rattle.pk_segment.specs.Opened.{IsOpened}
use Rattle.pk_open.proofs.opening.open_segment.Goals as goal

pub returns-in-Err-Damaged-clause-opened : goal.returns-in-Err-Damaged-clause-opened
returns-in-Err-Damaged-clause-opened g c = λ honest s opens.
    let source = c.on-source.ensures in
    let here : IsOpened (extent_bytes (g.D.Disk.content c.on-source.result.disk.now) c.on-source.result.extent) c.args.entry.extent.bytes c.args.entry.kind s
    = rw (source.disk, source.extent) opens in
    c.open.ensures.damaged honest (c.in-Err-Damaged.is ∙ ap Err c.in-Err-Damaged.field-0-is) s here
