-- What waits is not written where the writer fails.
use Rattle.pk_shell.proofs.Parts.{flush_stops, unflushed_by}
use Rattle.pk_shell.proofs.sending.flush.Goals as goal

pub returns-in_err-write_all : goal.returns-in_err-write_all
returns-in_err-write_all g c =
    unflushed_by c.from_residual.result _ _ _ _ _ c.from_residual.ensures.1 (flush_stops _ _ _ (rw c.as_slice.ensures at c.in_err-write_all.ensures))
