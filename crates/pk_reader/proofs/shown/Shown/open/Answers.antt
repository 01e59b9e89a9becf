-- A store that was just opened means what its disk holds; where the disk is told to have failed, it did.
use Rattle.pk_reader.proofs.CauseLemmas.{opened_failed}
use Rattle.pk_reader.proofs.ShownLemmas.{means_opened}
use Rattle.pk_reader.proofs.shown.Shown.open.Goals as goal

pub invariant_of-result : goal.invariant_of-result
invariant_of-result g c = record {
  clear = c.in-Ok.ensures.opens.fresh.clear;
  means = means_opened g.D.Disk c.args.disk c.in-Ok.store c.in-Ok.ensures.opens;
}

pub returns-in-Err-clause-cause : goal.returns-in-Err-clause-cause
returns-in-Err-clause-cause g c = opened_failed g.D.Disk c.args.disk c.in-Err.refused.disk c.in-Err.refused.why c.in-Err.ensures.opens.cause
