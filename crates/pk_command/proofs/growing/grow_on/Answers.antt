-- What is told goes by the answer of the growth.
use Rattle.std.proofs.Common.{inl, inr, refl}
use Rattle.pk_command.proofs.growing.grow_on.Goals as goal

pub returns-in-Ok-tell_growth : goal.returns-in-Ok-tell_growth
returns-in-Ok-tell_growth g c = inl (c.in-Ok.growth, refl, rw c.in-Ok.is at c.grow_file-answer.ensures, c.in-Ok-tell_growth.ensures, refl)

pub returns-in-Err-tell_growth : goal.returns-in-Err-tell_growth
returns-in-Err-tell_growth g c = inr (inl (c.in-Ok.growth, c.fail-in-Err-tell_growth.ensures.status, rw c.in-Ok.is at c.grow_file-answer.ensures, c.fail-in-Err-tell_growth.ensures.told, c.in-Err-tell_growth.ensures))

pub returns-in-Err : goal.returns-in-Err
returns-in-Err g c = inr (inr (c.in-Err.fault, c.fail.ensures.status, rw c.in-Err.is at c.grow_file-answer.ensures, rw c.growing_reason.ensures at c.fail.ensures.told, refl))
