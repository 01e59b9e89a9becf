-- The store that was made is the one that the call answered.
use Rattle.std.proofs.Common.{inl, inr, refl}
use Rattle.pk_command.proofs.SessionLemmas.{made, uncreated}
use Rattle.pk_command.proofs.creating.create_on.Goals as goal

pub returns-in-Ok-tell_made : goal.returns-in-Ok-tell_made
returns-in-Ok-tell_made g c = inl (refl, made g.D.Disk (λ honest x image. g.met.D.Disk.only_now x image honest) (λ honest x t image. g.met.D.Disk.counts_now x t image honest) c.args.disk c.close-disk.result c.in-Ok.store c.in-Ok.ensures.creates c.close-disk.ensures, c.in-Ok-tell_made.ensures, refl)

pub returns-in-Err-tell_made : goal.returns-in-Err-tell_made
returns-in-Err-tell_made g c = inr (inl (
  c.fail-in-Err-tell_made.ensures.status,
  made g.D.Disk (λ honest x image. g.met.D.Disk.only_now x image honest) (λ honest x t image. g.met.D.Disk.counts_now x t image honest) c.args.disk c.close-disk.result c.in-Ok.store c.in-Ok.ensures.creates c.close-disk.ensures,
  c.fail-in-Err-tell_made.ensures.told,
  c.in-Err-tell_made.ensures,
))

pub returns-in-Err : goal.returns-in-Err
returns-in-Err g c = inr (inr (
  record { refused = c.in-Err.refused; creates = c.in-Err.ensures.creates; handed = refl; extends = uncreated g.D.Disk (λ honest x image. g.met.D.Disk.only_now x image honest) (λ honest x t image. g.met.D.Disk.counts_now x t image honest) c.args.disk c.in-Err.refused c.in-Err.ensures.creates },
  c.fail.ensures.status,
  rw c.creating_reason.ensures at c.fail.ensures.told,
  refl,
))
