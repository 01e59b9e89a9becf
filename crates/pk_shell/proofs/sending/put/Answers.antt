-- As many bytes are put as have room, and then, with nothing waiting, as many more.
use Rattle.std.proofs.Common.{arith}
use Rattle.std.proofs.lemmas.Grind.{common_steps}
use Rattle.std.proofs.lemmas.List.{take_all}
use Rattle.pk_shell.proofs.Parts.{put_behind, put_on, put_stops, stopped_by}
use Rattle.pk_shell.proofs.sending.put.Goals as goal

pub loop-done-init : goal.loop-done-init
loop-done-init g c = record {
  within = c.fill-done.ensures.within;
  so_far = put_behind _ _ _ _ c.fill-done.ensures.filled;
}

pub loop-done-preserved : goal.loop-done-preserved
loop-done-preserved g c = record {
  within = grind (arith, common_steps, c.fill-done-in-loop-done.ensures.within);
  so_far = put_on _ _ _ _ _ _ _ _ _ _ c.loop-done.invariant.so_far c.in_ok-flush.ensures c.fill-done-in-loop-done.ensures.filled;
}

pub returns-in_err-flush : goal.returns-in_err-flush
returns-in_err-flush g c =
    stopped_by c.from_residual.result _ _ _ _ _ _ c.from_residual.ensures.1 (put_stops _ _ _ _ _ _ _ c.loop-done.invariant.so_far c.in_err-flush.ensures)

pub returns : goal.returns
returns g c = rw (take_all c.loop-done.done c.args.bytes.now c.loop-done-test.false) at c.loop-done.invariant.so_far
