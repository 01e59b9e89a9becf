-- The store of the session is the one that the disk opened to.
use Rattle.std.proofs.Common.{inl, inr, refl}
use Rattle.pk_command.proofs.SessionLemmas.{session, unopened}
use Rattle.pk_command.proofs.running.run_on.Goals as goal

pub returns-in-Ok-served : goal.returns-in-Ok-served
returns-in-Ok-served g c = inl (
  c.in-Ok-served.field-0,
  refl,
  refl,
  session g.D.Disk (λ honest x image. g.met.D.Disk.only_now x image honest) (λ honest x t image. g.met.D.Disk.counts_now x t image honest) c.args.disk c.close-disk.result c.in-Ok.store c.serve-served.new.store _ _ _ _ _ c.in-Ok.ensures.opens c.in-Ok-served.ensures.ends c.in-Ok-served.ensures.calls c.close-disk.ensures,
)

pub returns-in-Err-served : goal.returns-in-Err-served
returns-in-Err-served g c = inr (inl (
  c.in-Err-served.fault,
  c.fail-in-Err-served.ensures.status,
  rw c.session_reason.ensures at c.fail-in-Err-served.ensures.told,
  session g.D.Disk (λ honest x image. g.met.D.Disk.only_now x image honest) (λ honest x t image. g.met.D.Disk.counts_now x t image honest) c.args.disk c.close-disk.result c.in-Ok.store c.serve-served.new.store _ _ _ _ _ c.in-Ok.ensures.opens c.in-Err-served.ensures.ends c.in-Err-served.ensures.calls c.close-disk.ensures,
))

pub returns-in-Err : goal.returns-in-Err
returns-in-Err g c = inr (inr (
  record { refused = c.in-Err.refused; opens = c.in-Err.ensures.opens; reader = refl; writer = refl; handed = refl; extends = unopened g.D.Disk (λ honest x image. g.met.D.Disk.only_now x image honest) (λ honest x t image. g.met.D.Disk.counts_now x t image honest) c.args.disk c.in-Err.refused c.in-Err.ensures.opens },
  c.fail.ensures.status,
  rw c.opening_reason.ensures at c.fail.ensures.told,
))
