use Rattle.std.proofs.Common.{arith, ◌≡◌, ◌-◌}
use Rattle.pk_posting.proofs.SourceLemmas.{answered_more, answered_none}
use Rattle.pk_cursor.proofs.DoublingLemmas.{halves}
use Rattle.pk_cursor.proofs.skips.narrow.Goals as goal

pub loop-high-init : goal.loop-high-init
loop-high-init g c = record {
  left = answered_none (g.met.S.ByteSource.keeps_self _);
  order = (omega arith, omega arith, omega arith);
  found = λ h xs l b. b;
  asks = λ t s. (t, s, omega arith);
}

pub loop-high-preserved-then-target-last : goal.loop-high-preserved-then-target-last
loop-high-preserved-then-target-last g c =
    let before = c.loop-high.invariant in
    let read = c.in_ok-last.ensures in
    record {
      left = answered_more g.met.S.ByteSource.keeps_then before.left read.left.read read.left.faults.ok;
      order = (omega arith, omega arith, omega arith);
      found = λ h xs l b. record { below = (before.found h xs l b).below; reaches = λ z. omega (arith, read.spelled h xs (rw (before.left.same h) l)) };
      asks = λ t s. (let a = before.asks t s in halves a.0 _ _ _ _ _ (omega arith) a.1 (omega arith) a.2 read.left.asks);
    }

pub loop-high-preserved : goal.loop-high-preserved
loop-high-preserved g c =
    let before = c.loop-high.invariant in
    let read = c.in_ok-last.ensures in
    record {
      left = answered_more g.met.S.ByteSource.keeps_then before.left read.left.read read.left.faults.ok;
      order = (omega arith, omega arith, omega arith);
      found = λ h xs l b. record { below = omega (arith, read.spelled h xs (rw (before.left.same h) l)); reaches = (before.found h xs l b).reaches };
      asks = λ t s. (let a = before.asks t s in halves a.0 _ _ _ _ _ (omega arith) a.1 (omega arith) a.2 read.left.asks);
    }

pub returns-clause-found : goal.returns-clause-found
returns-clause-found g c h xs l b =
    let f = c.loop-high.invariant.found h xs l b in
    let e : c.loop-high.high - 1 ≡ c.loop-high.low = omega arith in
    rw e f
