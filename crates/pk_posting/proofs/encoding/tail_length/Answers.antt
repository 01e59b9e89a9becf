use Rattle.std.proofs.Common.{arith}
use Rattle.std.proofs.lemmas.List.{drop_more, drop_all}
use Rattle.pk_posting.proofs.WritingLemmas.{counted_more, counted_all}
use Rattle.pk_posting.proofs.encoding.tail_length.Goals as goal

pub loop-x-preserved : goal.loop-x-preserved
loop-x-preserved c =
    let next = drop_more c.args.xs.now c.loop-x.x-index 0 (omega arith) in
    (omega arith, counted_more c.args.before c.loop-x.here c.loop-x.count c.put.result _ c.args.xs.now _ _ next c.loop-x.invariant.1 c.put.ensures.long)

pub returns-clause-length : goal.returns-clause-length
returns-clause-length c = counted_all c.args.before c.loop-x.here c.loop-x.count c.args.xs.now _ (drop_all c.loop-x.x-index c.args.xs.now (omega arith)) c.loop-x.invariant.1
