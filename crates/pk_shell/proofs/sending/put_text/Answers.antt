-- The word, and then the text.
use Rattle.pk_shell.proofs.Parts.{puts_then, stops_first, stopped_by}
use Rattle.pk_shell.proofs.sending.put_text.Goals as goal

pub returns-in_err-put : goal.returns-in_err-put
returns-in_err-put g c = stopped_by c.from_residual.result _ _ _ _ _ _ c.from_residual.ensures.1 (stops_first _ _ _ _ _ c.in_err-put.ensures)

pub returns : goal.returns
returns g c = puts_then _ _ _ _ _ _ c.put_escaped.result _ _ c.in_ok-put.ensures c.put_escaped.ensures
