-- Nothing waits, the reply line is put, and what waits of it is written.
use Rattle.pk_shell.proofs.Parts.{sends, cut_before, unsent_by}
use Rattle.pk_shell.proofs.sending.send.Goals as goal

pub returns-in_err-put_line : goal.returns-in_err-put_line
returns-in_err-put_line g c =
    unsent_by c.from_residual.result _ _ _ _ c.from_residual.ensures.1 (cut_before _ _ _ _ c.clear.ensures c.in_err-put_line.ensures)

pub returns : goal.returns
returns g c = sends _ _ _ _ _ _ c.flush.result _ c.clear.ensures c.in_ok-put_line.ensures c.flush.ensures
