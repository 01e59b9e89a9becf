-- The words of the growth and the number, and then the rest of the line.
use Rattle.std.proofs.Common.{◌≡◌, ◌∙◌}
use Rattle.pk_command.specs.Growing.{growth_front}
use Rattle.pk_command.proofs.ReportLemmas.{sent_then}
use Rattle.pk_shell.proofs.Parts.{stopped_before, unsent_by}
use Rattle.pk_command.proofs.telling.tell_growth.Goals as goal

pub returns-in_err-write_number : goal.returns-in_err-write_number
returns-in_err-write_number g c =
    let same : c.as_bytes.result.now ≡ growth_front c.args.growth = c.as_bytes.ensures.value ∙ c.growth_front.ensures in
    unsent_by c.from_residual.result _ _ _ _ c.from_residual.ensures.1 (stopped_before _ _ _ _ (rw same at c.in_err-write_number.ensures))

pub returns : goal.returns
returns g c =
    let same : c.as_bytes.result.now ≡ growth_front c.args.growth = c.as_bytes.ensures.value ∙ c.growth_front.ensures in
    sent_then _ _ _ c.write_all.result _ _ (rw same at c.in_ok-write_number.ensures) c.write_all.ensures
