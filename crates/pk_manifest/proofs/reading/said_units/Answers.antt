-- The half is read, and then its units.
use Rattle.pk_disk.proofs.FrameLemmas.{keeps_disk_then}
use Rattle.pk_manifest.proofs.reading.said_units.Goals as goal

pub returns-in_err-units-clause-keeps : goal.returns-in_err-units-clause-keeps
returns-in_err-units-clause-keeps g c = keeps_disk_then g.D.Disk _ _ _ c.half_in_force.ensures.keeps c.units.ensures.keeps

pub returns-clause-keeps : goal.returns-clause-keeps
returns-clause-keeps g c = keeps_disk_then g.D.Disk _ _ _ c.half_in_force.ensures.keeps c.units.ensures.keeps
