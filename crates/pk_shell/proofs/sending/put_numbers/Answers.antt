-- As many numbers as have room, then one that fills the outbox, and then as many more.
use Rattle.std.proofs.Common.{◌+◌, arith, length-drop}
use Rattle.std.proofs.lemmas.List.{take_all}
use Rattle.pk_model.specs.declared.documents.DocNo.{DocNo}
use Rattle.pk_shell.specs.ReplyText.{spaced}
use Rattle.pk_shell.proofs.Parts.{put_front, put_item, put_items, item_stops, flat_map-map, stopped_by}
use Rattle.pk_shell.proofs.sending.put_numbers.Goals as goal

pub loop-done-init : goal.loop-done-init
loop-done-init g c = record {
  within = c.fill_numbers-done.ensures.within;
  so_far = put_front _ _ _ spaced (λ (n : DocNo). n.0) _ c.fill_numbers-done.ensures.filled;
}

pub loop-done-preserved : goal.loop-done-preserved
loop-done-preserved g c =
    let l = c.loop-done in
    let more = c.fill_numbers-done-in-loop-done in
    record {
      within = omega (arith, more.ensures.within, length-drop (l.done + 1) c.args.numbers.now);
      so_far = put_items _ _ _ _ _ spaced (λ (n : DocNo). n.0) c.args.numbers.now (l.done + 1) more.result
          (put_item _ _ _ _ _ _ (λ (n : DocNo). spaced n.0) c.args.numbers.now l.done (record { 0 = 0 }) c.loop-done-test.true l.invariant.so_far (rw c.from.ensures at c.in_ok-put_number.ensures))
          more.ensures.filled;
    }

pub returns-in_err-put_number : goal.returns-in_err-put_number
returns-in_err-put_number g c =
    stopped_by c.from_residual.result _ _ _ _ _ _ c.from_residual.ensures.1 (rw (flat_map-map spaced (λ (n : DocNo). n.0) c.args.numbers.now)
    (item_stops _ _ _ _ _ (λ (n : DocNo). spaced n.0) c.args.numbers.now c.loop-done.done (record { 0 = 0 }) c.loop-done-test.true c.loop-done.invariant.so_far (rw c.from.ensures at c.in_err-put_number.ensures)))

pub returns : goal.returns
returns g c =
    rw (flat_map-map spaced (λ (n : DocNo). n.0) c.args.numbers.now) (rw (take_all c.loop-done.done c.args.numbers.now c.loop-done-test.false) at c.loop-done.invariant.so_far)
