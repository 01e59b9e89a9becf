-- Want of memory is told as that.
use Rattle.std.proofs.Common.{refl}
use Rattle.pk_command.proofs.reporting.refuse.Goals as goal

pub returns-in-Memory : goal.returns-in-Memory
returns-in-Memory g c = rw c.in-Memory.is (c.fail.ensures.status, c.fail.ensures.told, refl)
