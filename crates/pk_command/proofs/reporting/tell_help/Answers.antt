-- Help of which a part could be written is a failure, and told as that.
use Rattle.std.proofs.Common.{inr}
use Rattle.pk_command.proofs.reporting.tell_help.Goals as goal

pub returns-in-Err : goal.returns-in-Err
returns-in-Err g c = inr (c.fail.ensures.status, c.fail.ensures.told, rw c.as_bytes.ensures.value at c.in-Err.ensures)
