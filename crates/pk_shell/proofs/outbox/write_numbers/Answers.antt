-- One number more is written behind those so far.
use Rattle.std.proofs.Common.{arith, length, take, ◌≡◌, ◌-◌, ◌∙◌, length-drop}
use borrow.Rule.Slice.PartMut.{put_mid}
use Rattle.pk_shell.specs.ReplyText.{spaced}
use Rattle.pk_model.specs.declared.documents.DocNo.{DocNo}
use Rattle.pk_shell.proofs.Filling.{one_behind, length_behind}
use Rattle.pk_shell.proofs.Parts.{flat_map-map}
use Rattle.pk_shell.proofs.outbox.write_numbers.Goals as goal

pub loop-written-preserved : goal.loop-written-preserved
loop-written-preserved c =
    let l = c.loop-written in
    let w = c.write_spaced-end in
    let long : length w.new.out ≡ length l.out - l.end = omega (arith, w.ensures.size, length-drop l.end l.out) in
    let same : length (put_mid l.end (length l.out - l.end) l.out w.new.out) ≡ length l.out = length_behind l.end l.out w.new.out l.invariant.room long in
    record {
      within = omega arith;
      room = omega (arith, w.ensures.within);
      size = same ∙ l.invariant.size;
      so_far = one_behind l.out _ w.new.out (λ n. spaced n.0) c.args.numbers.now l.end _ l.written w.result (record { 0 = 0 }) l.invariant.so_far l.invariant.room (omega (arith, w.ensures.within)) c.loop-written-test.true w.ensures.written;
    }

pub returns-else-out-end-ge-SPACED_BYTES-clause-written : goal.returns-else-out-end-ge-SPACED_BYTES-clause-written
returns-else-out-end-ge-SPACED_BYTES-clause-written c = rw (flat_map-map spaced (λ (n : DocNo). n.0) (take c.loop-written.written c.args.numbers.now)) c.loop-written.invariant.so_far

pub returns-after-loop-written-clause-written : goal.returns-after-loop-written-clause-written
returns-after-loop-written-clause-written c = rw (flat_map-map spaced (λ (n : DocNo). n.0) (take c.loop-written.written c.args.numbers.now)) c.loop-written.invariant.so_far
