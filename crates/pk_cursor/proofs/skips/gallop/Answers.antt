use Rattle.std.proofs.Common.{arith, refl, suc}
use Rattle.pk_posting.proofs.SourceLemmas.{answered_more, answered_none}
use Rattle.pk_cursor.proofs.DoublingLemmas.{doubled, few_doubled}
use Rattle.pk_cursor.proofs.skips.gallop.Goals as goal

pub loop-step-init : goal.loop-step-init
loop-step-init g c = record {
  left = answered_none (g.met.S.ByteSource.keeps_self _);
  low = omega arith;
  high = c.requires.from;
  some = omega arith;
  found = λ h xs l b. b;
  asks = (0, refl, refl, omega arith);
}

pub loop-step-preserved : goal.loop-step-preserved
loop-step-preserved g c =
    let before = c.loop-step.invariant in
    let read = c.in_ok-last.ensures in
    let a = before.asks in
    record {
      left = answered_more g.met.S.ByteSource.keeps_then before.left read.left.read read.left.faults.ok;
      low = omega arith;
      high = omega arith;
      some = omega arith;
      found = λ h xs l b. omega (arith, read.spelled h xs (rw (before.left.same h) l));
      asks = (suc a.0, doubled a.0 c.loop-step.step a.1, omega (arith, a.2), omega (arith, a.3, read.left.asks));
    }

pub returns-then-target-last-clause-found : goal.returns-then-target-last-clause-found
returns-then-target-last-clause-found g c h xs l b =
    let before = c.loop-step.invariant in
    record { below = before.found h xs l b; reaches = λ m. omega (arith, c.in_ok-last.ensures.spelled h xs (rw (before.left.same h) l)) }

pub returns-then-target-last-clause-asks : goal.returns-then-target-last-clause-asks
returns-then-target-last-clause-asks g c =
    let a = c.loop-step.invariant.asks in
    let left = c.in_ok-last.ensures.left in
    record { doubled = a.0; passed = omega (arith, a.1, a.2); size = omega (arith, a.1); asks = omega (arith, a.3, left.asks) }

pub returns-clause-found : goal.returns-clause-found
returns-clause-found g c h xs l b = record { below = c.loop-step.invariant.found h xs l b; reaches = λ m. absurd (omega arith) }

pub returns-clause-asks : goal.returns-clause-asks
returns-clause-asks g c =
    let a = c.loop-step.invariant.asks in
    record { doubled = a.0; passed = omega (arith, a.1, a.2); size = omega (arith, a.1); asks = omega (arith, a.3) }

pub returns-in_err-last-clause-most : goal.returns-in_err-last-clause-most
returns-in_err-last-clause-most g c =
    let a = c.loop-step.invariant.asks in
    omega (arith, a.3, c.in_err-last.ensures.left.asks, few_doubled a.0 (omega (arith, a.1, a.2)))

pub returns-then-target-last-clause-most : goal.returns-then-target-last-clause-most
returns-then-target-last-clause-most g c =
    let a = c.loop-step.invariant.asks in
    omega (arith, a.3, c.in_ok-last.ensures.left.asks, few_doubled a.0 (omega (arith, a.1, a.2)))

pub returns-clause-most : goal.returns-clause-most
returns-clause-most g c =
    let a = c.loop-step.invariant.asks in
    omega (arith, a.3, few_doubled a.0 (omega (arith, a.1, a.2)))
