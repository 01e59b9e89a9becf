use Rattle.std.proofs.Common.{◌*◌, ℕ, List, arith}
use Rattle.pk_posting.specs.Parts.{bytes_at}
use Rattle.pk_cursor.proofs.SeekingLemmas.{widen}
use Rattle.pk_cursor.proofs.standing.Standing.seek.Goals as goal

pub returns-then-self-clause-at : goal.returns-then-self-clause-at
returns-then-self-clause-at g c h xs n a = c.advance.ensures.at _ xs n a (λ l. absurd (omega arith))

pub returns-then-target-self-clause-at : goal.returns-then-target-self-clause-at
returns-then-target-self-clause-at g c h xs n a = c.advance-then-target-self.ensures.at _ xs n a (λ l. omega arith)

pub returns-clause-at : goal.returns-clause-at
returns-clause-at g c h xs n a =
    let L : List ℕ = bytes_at (g.S.ByteSource.content c.args.source.now) c.args.self.now.place in
    let t = c.in_ok-leap.ensures.at h xs n a (omega arith) in
    let at = t.stands in
    let b = t.between in
    let on = c.in_ok-leap.ensures.on in
    let index = a.index in
    let room = a.inside in
    let blocks = at.shape.blocks in
    let count = at.count in
    let f = c.advance-2.ensures.at L xs (128 * c.leap.new.self.block) at (λ l. (
    let v = at.numbers 127 (omega arith) in
    let r = b.reaches l in
    omega (arith, v, r))) in
    record {
      index = f.index;
      stands = f.stands;
      first = widen xs n c.leap.new.self.block c.args.target f.index at.shape.spelled.posting (omega (arith, room (omega arith))) (omega arith) (omega arith) b.below f.first;
    }
