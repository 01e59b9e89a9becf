use Rattle.std.proofs.Common.{arith}
use Rattle.pk_cursor.proofs.DoublingLemmas.{all_asks, few_doubled}
use Rattle.pk_cursor.proofs.skips.find_block.Goals as goal

pub returns-clause-asks : goal.returns-clause-asks
returns-clause-asks g c k z = all_asks c.args.from _ _ _ _ _ _ k c.in_ok-low.ensures.asks (c.in_ok-j.ensures.order).0 c.in_ok-j.ensures.asks z

pub returns-in_err-j-clause-most : goal.returns-in_err-j-clause-most
returns-in_err-j-clause-most g c =
    let a = c.in_ok-low.ensures.asks in
    let few = few_doubled a.doubled (omega (arith, a.passed, (c.in_ok-low.ensures.order).1, (c.in_ok-low.ensures.order).2)) in
    omega (arith, a.asks, few, c.in_err-j.ensures.asks a.doubled (omega (arith, a.size)))

pub returns-clause-most : goal.returns-clause-most
returns-clause-most g c =
    let a = c.in_ok-low.ensures.asks in
    let few = few_doubled a.doubled (omega (arith, a.passed, (c.in_ok-low.ensures.order).1, (c.in_ok-low.ensures.order).2)) in
    omega (arith, a.asks, few, c.in_ok-j.ensures.asks a.doubled (omega (arith, a.size)))
