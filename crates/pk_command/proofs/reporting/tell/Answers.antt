-- The line is written, or a part of it.
use Rattle.pk_command.proofs.ReportLemmas.{told}
use Rattle.pk_command.proofs.reporting.tell.Goals as goal

pub returns : goal.returns
returns g c = rw c.as_bytes.ensures.value at (told _ _ c.write_all.result _ c.write_all.ensures)
