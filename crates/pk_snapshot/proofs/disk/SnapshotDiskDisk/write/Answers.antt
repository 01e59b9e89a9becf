-- A write of nothing changes nothing.
use Rattle.std.proofs.Common.{rules}
use Rattle.pk_snapshot.specs.Shown.{shown_bytes}
use Rattle.pk_snapshot.proofs.WriteLemmas.{written_nothing}
use Rattle.pk_snapshot.proofs.disk.SnapshotDiskDisk.write.Goals as goal

pub returns-then-is_empty-clause-bytes : goal.returns-then-is_empty-clause-bytes
returns-then-is_empty-clause-bytes g c = λ h.
    let disk = c.args.self.now in
    written_nothing (shown_bytes disk.len disk.shown.extents.items (g.F.SharedFile.marked disk.file)) c.args.bytes.now c.args.at c.requires (search rules)
