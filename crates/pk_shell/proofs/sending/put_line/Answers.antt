-- The reply, and then its line feed.
use Rattle.pk_shell.proofs.Parts.{puts_then, stops_first, stopped_by}
use Rattle.pk_shell.proofs.sending.put_line.Goals as goal

pub returns-in_err-put_response : goal.returns-in_err-put_response
returns-in_err-put_response g c = stopped_by c.from_residual.result _ _ _ _ _ _ c.from_residual.ensures.1 (stops_first _ _ _ _ _ c.in_err-put_response.ensures)

pub returns : goal.returns
returns g c = puts_then _ _ _ _ _ _ c.put.result _ _ c.in_ok-put_response.ensures c.put.ensures
