-- What was told is what the check of the store answered, which the disk opened to.
use Rattle.std.proofs.Common.{inl, inr, refl, Ok, Err}
use Rattle.pk_command.proofs.SessionLemmas.{checked, none_held, unopened}
use Rattle.pk_command.proofs.checking.check_on.Goals as goal

pub returns-in-Ok-tell_checked : goal.returns-in-Ok-tell_checked
returns-in-Ok-tell_checked g c = inl (
  c.in-Ok-answered.checked,
  refl,
  refl,
  checked g.D.Disk (λ honest x image. g.met.D.Disk.only_now x image honest) (λ honest x t image. g.met.D.Disk.counts_now x t image honest) c.args.disk c.close-disk.result c.in-Ok.store c.check-answered.new.self (Ok c.in-Ok-answered.checked) c.in-Ok.ensures.opens c.in-Ok-answered.ensures c.close-disk.ensures,
  c.in-Ok-tell_checked.ensures,
)

pub returns-in-Err-tell_checked : goal.returns-in-Err-tell_checked
returns-in-Err-tell_checked g c = inr (inl (
  c.in-Ok-answered.checked,
  c.fail-in-Err-tell_checked.ensures.status,
  c.fail-in-Err-tell_checked.ensures.told,
  checked g.D.Disk (λ honest x image. g.met.D.Disk.only_now x image honest) (λ honest x t image. g.met.D.Disk.counts_now x t image honest) c.args.disk c.close-disk.result c.in-Ok.store c.check-answered.new.self (Ok c.in-Ok-answered.checked) c.in-Ok.ensures.opens c.in-Ok-answered.ensures c.close-disk.ensures,
  c.in-Err-tell_checked.ensures,
))

pub returns-in-Err-answered : goal.returns-in-Err-answered
returns-in-Err-answered g c = inr (inr (inl (
  c.in-Err-answered.why,
  c.fail-in-Err-answered.ensures.status,
  rw c.checking_reason.ensures at c.fail-in-Err-answered.ensures.told,
  checked g.D.Disk (λ honest x image. g.met.D.Disk.only_now x image honest) (λ honest x t image. g.met.D.Disk.counts_now x t image honest) c.args.disk c.close-disk.result c.in-Ok.store c.check-answered.new.self (Err c.in-Err-answered.why) c.in-Ok.ensures.opens c.in-Err-answered.ensures c.close-disk.ensures,
  refl,
)))

pub returns-in-Err : goal.returns-in-Err
returns-in-Err g c = inr (inr (inr (
  record { refused = c.in-Err.refused; opens = c.in-Err.ensures.opens; answered = none_held g.D.Disk (λ honest x image. g.met.D.Disk.only_now x image honest) (λ honest x t image. g.met.D.Disk.counts_now x t image honest) c.args.disk c.in-Err.refused c.in-Err.refused.why refl c.in-Err.ensures.opens; handed = refl; extends = unopened g.D.Disk (λ honest x image. g.met.D.Disk.only_now x image honest) (λ honest x t image. g.met.D.Disk.counts_now x t image honest) c.args.disk c.in-Err.refused c.in-Err.ensures.opens },
  c.fail.ensures.status,
  rw c.opening_reason.ensures at c.fail.ensures.told,
  refl,
)))
