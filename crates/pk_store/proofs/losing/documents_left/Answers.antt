-- At the end all are counted.
use Rattle.std.proofs.Common.{◌∙◌, ap, arith, sum_by}
use Rattle.std.proofs.lemmas.List.{take_all}
use Rattle.pk_store.specs.Losing.{committed_left}
use Rattle.pk_store.proofs.losing.documents_left.Goals as goal

pub returns : goal.returns
returns c =
    c.loop-segment.invariant.counted ∙ ap (sum_by committed_left) (take_all c.loop-segment.segment-index c.args.opened.now (omega (arith, c.loop-segment-test.false)))
