-- A text, and then the digits.
use Rattle.std.proofs.Common.{◌≡◌, ◌∙◌}
use Rattle.std.specs.Prelude.{decimal}
use Rattle.pk_command.proofs.ReportLemmas.{sent_then}
use Rattle.pk_shell.proofs.Parts.{stopped_before, unsent_by}
use Rattle.pk_command.proofs.telling.write_number.Goals as goal

pub returns-in_err-write_all : goal.returns-in_err-write_all
returns-in_err-write_all g c = unsent_by c.from_residual.result _ _ _ _ c.from_residual.ensures.1 (stopped_before _ _ _ _ c.in_err-write_all.ensures)

pub returns : goal.returns
returns g c =
    let same : c.as_bytes.result.now ≡ decimal c.args.number = c.as_bytes.ensures.value ∙ c.format.ensures.text in
    sent_then _ _ _ c.write_all-2.result _ _ c.in_ok-write_all.ensures (rw same at c.write_all-2.ensures)
