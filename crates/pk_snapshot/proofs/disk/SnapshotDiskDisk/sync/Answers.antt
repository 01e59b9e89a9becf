-- Where no write was refused, nothing is open.
use Rattle.std.proofs.Common.{ap}
use Rattle.pk_snapshot.specs.Writes.{open_at}
use Rattle.pk_snapshot.proofs.disk.SnapshotDiskDisk.sync.Goals as goal

pub returns-in-None-clause-closed : goal.returns-in-None-clause-closed
returns-in-None-clause-closed g c = λ h. ap open_at c.in-None.is
