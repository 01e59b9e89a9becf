-- One try after another.
use Rattle.std.proofs.Common.{ap, ◌∙◌, arith}
use Rattle.pk_filedisk.specs.Raw.{refusals_by}
use Rattle.pk_snapshot.specs.Counted.{interruptions_by}
use Rattle.pk_snapshot.proofs.CallLemmas.{goes_further}
use Rattle.pk_snapshot.proofs.reading.length_of.Goals as goal

pub tries-preserved : goal.tries-preserved
tries-preserved g c =
    let f = g.F.SharedFile in
    record {
      bytes = λ h. c.len.ensures.bytes h ∙ c.tries.invariant.bytes h;
      marked = λ h. c.len.ensures.marked h ∙ c.tries.invariant.marked h;
      goes = λ h. goes_further f.failed f.interrupted _ 0 0 _ _ _ _ _ (c.tries.invariant.goes h) (c.in-Err-Interrupted.ensures.failed h) (ap refusals_by c.in-Err-Interrupted.field-0-is) (c.in-Err-Interrupted.ensures.interrupted h) (omega (arith, ap interruptions_by c.in-Err-Interrupted.field-0-is));
    }
