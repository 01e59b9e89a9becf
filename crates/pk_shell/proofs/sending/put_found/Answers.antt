-- How many, a colon, and the numbers.
use Rattle.pk_shell.proofs.Parts.{puts_then, stops_first, stops_then, stopped_by}
use Rattle.pk_shell.proofs.sending.put_found.Goals as goal

pub returns-in_err-put_number : goal.returns-in_err-put_number
returns-in_err-put_number g c = stopped_by c.from_residual.result _ _ _ _ _ _ c.from_residual.ensures.1 (stops_first _ _ _ _ _ c.in_err-put_number.ensures)

pub returns-in_err-put : goal.returns-in_err-put
returns-in_err-put g c =
    stopped_by c.from_residual-in_err-put.result _ _ _ _ _ _ c.from_residual-in_err-put.ensures.1
    (stops_then _ _ _ _ _ _ _ c.in_ok-put_number.ensures (stops_first _ _ _ _ _ c.in_err-put.ensures))

pub returns : goal.returns
returns g c =
    puts_then _ _ _ _ _ _ c.put_numbers.result _ _ c.in_ok-put_number.ensures (puts_then _ _ _ _ _ _ c.put_numbers.result _ _ c.in_ok-put.ensures c.put_numbers.ensures)
