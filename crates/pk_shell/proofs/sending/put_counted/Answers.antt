-- The one number, and then the other; none loses by the cast.
use Rattle.pk_shell.proofs.Parts.{puts_then, stops_first, stopped_by}
use Rattle.pk_shell.proofs.sending.put_counted.Goals as goal

pub returns-in_err-put_number : goal.returns-in_err-put_number
returns-in_err-put_number g c = stopped_by c.from_residual.result _ _ _ _ _ _ c.from_residual.ensures.1 (stops_first _ _ _ _ _ c.in_err-put_number.ensures)

pub returns : goal.returns
returns g c = puts_then _ _ _ _ _ _ c.put_number-2.result _ _ c.in_ok-put_number.ensures (rw c.from.ensures at c.put_number-2.ensures)
