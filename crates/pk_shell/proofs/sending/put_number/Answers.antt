-- A text, and then the digits.
use Rattle.std.proofs.Common.{◌≡◌, ◌∙◌}
use Rattle.std.specs.Prelude.{decimal}
use Rattle.pk_shell.proofs.Parts.{puts_then, stops_first, stopped_by}
use Rattle.pk_shell.proofs.sending.put_number.Goals as goal

pub returns-in_err-put : goal.returns-in_err-put
returns-in_err-put g c = stopped_by c.from_residual.result _ _ _ _ _ _ c.from_residual.ensures.1 (stops_first _ _ _ _ _ c.in_err-put.ensures)

pub returns : goal.returns
returns g c =
    let same : c.as_bytes.result.now ≡ decimal c.args.number = c.as_bytes.ensures.value ∙ c.format.ensures.text in
    puts_then _ _ _ _ _ _ c.put-2.result _ _ c.in_ok-put.ensures (rw same at c.put-2.ensures)
