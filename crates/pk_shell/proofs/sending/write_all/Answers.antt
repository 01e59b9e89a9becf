-- The writer took more bytes, took none, or failed.
use Rattle.std.proofs.Common.{arith, rules}
use Rattle.pk_shell.proofs.Parts.{stopped, stopped_at, went_on}
use Rattle.std.proofs.lemmas.Grind.{common_steps}
use Rattle.pk_shell.proofs.sending.write_all.Goals as goal

pub loop-done-preserved : goal.loop-done-preserved
loop-done-preserved g c = record {
  within = grind (arith, common_steps, c.in-Ok.ensures.bound);
  written = went_on _ _ _ _ _ _ c.loop-done.invariant.written c.in-Ok.ensures.bytes;
}

pub returns-in-Ok-eq0 : goal.returns-in-Ok-eq0
returns-in-Ok-eq0 g c = stopped_at _ _ _ _ _ _ _ (search rules) c.loop-done.invariant.written c.in-Ok-eq0.ensures.bytes (search rules)

pub returns-in-Err : goal.returns-in-Err
returns-in-Err g c = stopped _ _ _ _ _ (search rules) c.loop-done.invariant.written c.in-Err.ensures.bytes
