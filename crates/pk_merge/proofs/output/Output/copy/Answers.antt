-- A part more is given.
use Rattle.std.proofs.Common.{◌∙◌, ◌+◌, ◌≤◌, List, ℕ, take, drop, ap, arith}
use Rattle.pk_merge.specs.Output.{given}
use Rattle.pk_merge.proofs.OutputLemmas.{given_held, given_part, part_of, stretch_then, writes_next}
use Rattle.pk_merge.proofs.output.Output.copy.Goals as goal

pub overflow_add-from : goal.overflow_add-from
overflow_add-from g c = omega (arith, c.requires.low, c.loop-done.invariant.most)

pub loop-done-preserved : goal.loop-done-preserved
loop-done-preserved g c =
    let inv = c.loop-done.invariant in
    let content = g.D.Disk.content in
    let mid = c.make_room.new.self in
    let new = c.hold_from.new.self in
    let w = c.in_ok-make_room.ensures.written in
    let hold = c.in_ok-done.ensures in
    let same = stretch_then c.args.self.now c.loop-done.self mid inv.stretch w.stretch in
    let done = c.loop-done.done in
    let n = c.in_ok-done.field-0 in
    let le : done + n ≤ c.args.len = omega (arith, hold.most, inv.most) in
    let to_mid = writes_next g.D.Disk c.args.self.now c.loop-done.self c.args.disk.now c.loop-done.disk
    c.make_room.new.disk inv.stretch inv.writes w.writes in
    let bytes = take c.args.len (drop c.args.from (content c.args.disk.now)) in
    record {
      most = le;
      stretch = stretch_then c.args.self.now mid new same hold.stretch;
      writes = writes_next g.D.Disk c.args.self.now mid c.args.disk.now c.make_room.new.disk
          c.hold_from.new.disk same to_mid hold.writes;
      count = omega (arith, hold.at, hold.filled, w.count, inv.count);
      given_are = λ h.
          let part = take n (drop (c.args.from + done) (content c.make_room.new.disk)) in
          let stays = hold.same h in
          let held = given_held (content c.make_room.new.disk) mid new part hold.stretch.start hold.at
          (hold.held h) in
          let here = ap (λ (b : List ℕ). given b new) stays ∙ held in
          let is = part_of (content c.make_room.new.disk) (content c.args.disk.now) c.args.from c.args.len
          done n c.args.self.now.start c.args.self.now.end to_mid.size (to_mid.changed h).same
          c.requires.apart c.requires.source le in
          given_part (given (content c.args.disk.now) c.args.self.now)
          (given (content c.loop-done.disk) c.loop-done.self) (given (content c.make_room.new.disk) mid)
          (given (content c.hold_from.new.disk) new) bytes part done n
          (inv.given_are h) (w.given_are h) here is;
      buffer = hold.buffer ∙ w.buffer ∙ inv.buffer;
      unfailed = record {
        reads = hold.cause.reads ∙ w.cause.reads ∙ inv.unfailed.reads;
        writes =
            hold.cause.writes ∙ w.cause.writes ∙ inv.unfailed.writes;
      };
    }
