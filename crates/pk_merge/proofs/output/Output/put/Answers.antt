-- A part more is given.
use Rattle.std.proofs.Common.{◌∙◌, ◌-◌, length, take, drop, ap, arith, length-drop}
use Rattle.std.proofs.lemmas.List.{take_rest}
use Rattle.pk_merge.specs.Output.{given}
use Rattle.pk_merge.proofs.OutputLemmas.{given_held, given_more, stretch_then, writes_next}
use Rattle.pk_merge.proofs.output.Output.put.Goals as goal

pub loop-done-preserved : goal.loop-done-preserved
loop-done-preserved g c =
    let inv = c.loop-done.invariant in
    let content = g.D.Disk.content in
    let mid = c.make_room.new.self in
    let new = c.hold-done.new.self in
    let w = c.in_ok-make_room.ensures.written in
    let hold = c.hold-done.ensures in
    let same = stretch_then c.args.self.now c.loop-done.self mid inv.stretch w.stretch in
    let rest = take (length c.args.bytes.now - c.loop-done.done) (drop c.loop-done.done c.args.bytes.now) in
    record {
      most = omega (
        arith,
        hold.most,
        inv.most,
        length-drop c.loop-done.done c.args.bytes.now,
        ap length (take_rest c.args.bytes.now c.loop-done.done),
      );
      stretch = stretch_then c.args.self.now mid new same hold.stretch;
      writes = writes_next g.D.Disk c.args.self.now c.loop-done.self c.args.disk.now c.loop-done.disk
          c.make_room.new.disk inv.stretch inv.writes w.writes;
      count = omega (arith, hold.at, hold.filled, w.count, inv.count);
      given_are = λ h. given_more (given (content c.args.disk.now) c.args.self.now)
          (given (content c.loop-done.disk) c.loop-done.self) (given (content c.make_room.new.disk) mid)
          (given (content c.make_room.new.disk) new)
          c.args.bytes.now rest c.loop-done.done c.hold-done.result (inv.given_are h) (w.given_are h)
          (given_held (content c.make_room.new.disk) mid new (take c.hold-done.result rest) hold.stretch.start
          hold.at hold.held) (take_rest c.args.bytes.now c.loop-done.done);
      buffer = hold.buffer ∙ w.buffer ∙ inv.buffer;
      unfailed = record {
        reads = w.cause.reads ∙ inv.unfailed.reads;
        writes = w.cause.writes
            ∙ inv.unfailed.writes;
      };
    }
