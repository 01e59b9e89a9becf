use Rattle.std.proofs.Common.{arith}
use Rattle.pk_posting.specs.Spelling.{widths_of}
use Rattle.pk_posting.proofs.WritingLemmas.{widths_more}
use Rattle.pk_posting.proofs.encoding.total_width.Goals as goal

pub loop-k-init : goal.loop-k-init
unfolding widths_of
loop-k-init c = (omega arith, omega arith)

pub loop-k-preserved : goal.loop-k-preserved
loop-k-preserved c =
    let more = widths_more c.loop-k.k c.args.xs.now in
    let w = c.differences_at-total.ensures.width in
    (omega (arith, more, w), omega arith)
