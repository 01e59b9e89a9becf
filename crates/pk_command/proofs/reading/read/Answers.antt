-- The reader began over the file that was opened, and each line was answered by it.
use Rattle.std.proofs.Common.{inl, inr, refl}
use Rattle.pk_command.proofs.reading.read.Goals as goal

pub returns-in-Ok-serve_engine : goal.returns-in-Ok-serve_engine
returns-in-Ok-serve_engine g c = inl (
  c.in-Ok-serve_engine.field-0,
  c.in-Ok-open.reader,
  c.serve_engine.new.engine,
  refl,
  refl,
  record { opened = g.F.SharedFile.content c.in-Ok.file; shared = c.in-Ok.ensures; fresh = c.in-Ok-open.ensures.fresh },
  c.in-Ok-serve_engine.ensures.ends,
)

pub returns : goal.returns
returns g c = inr (inl (
  c.in-Err-serve_engine.fault,
  c.in-Ok-open.reader,
  c.serve_engine.new.engine,
  c.fail-in-Err-serve_engine.ensures.status,
  rw c.session_reason.ensures at c.fail-in-Err-serve_engine.ensures.told,
  record { opened = g.F.SharedFile.content c.in-Ok.file; shared = c.in-Ok.ensures; fresh = c.in-Ok-open.ensures.fresh },
  c.in-Err-serve_engine.ensures.ends,
))
