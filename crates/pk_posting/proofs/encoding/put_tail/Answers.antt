use Rattle.std.proofs.Common.{rules, ◌≡◌, ◌+◌, ◌-◌, ◌≤◌, length, take, slice_index, arith, sym, ap, ◌∙◌}
use Rattle.std.proofs.lemmas.List.{drop_more, drop_all}
use Rattle.pk_posting.proofs.WritingLemmas.{tail_put, tail_done, room_for}
use Rattle.pk_posting.proofs.encoding.put_tail.Goals as goal

pub slice_bounds-copy_from_slice-end : goal.slice_bounds-copy_from_slice-end
slice_bounds-copy_from_slice-end c =
    let next = drop_more c.args.xs.now c.loop-x.x-index 0 (omega arith) in
    let r = room_for c.args.start c.args.before c.loop-x.at c.loop-x.here _ _ _ _ _ _ next c.loop-x.invariant in
    let whole = r.0 in
    let h : c.loop-x.at + c.put-used.result ≤ length c.loop-x.out = omega arith in
    search rules

pub loop-x-preserved : goal.loop-x-preserved
loop-x-preserved c =
    let next = drop_more c.args.xs.now c.loop-x.x-index 0 (omega arith) in
    let r = room_for c.args.start c.args.before c.loop-x.at c.loop-x.here _ _ _ _ _ _ next c.loop-x.invariant in
    let whole = r.0 in
    let size : c.loop-x.at + c.put-used.result - c.loop-x.at ≡ c.put-used.result = omega arith in
    rw size (tail_put c.args.start c.args.before c.loop-x.at c.loop-x.here (slice_index c.args.xs.now c.loop-x.x-index) c.put-used.result c.args.xs.now _ _ c.args.out.now c.loop-x.out c.copy_from_slice.new.self
    next c.loop-x.invariant c.put-used.ensures.long (c.copy_from_slice.ensures.after ∙ c.put-used.ensures.bytes) (omega arith)
    (ap length (c.copy_from_slice.ensures.after ∙ c.put-used.ensures.bytes) ∙ sym c.put-used.ensures.long))

pub returns : goal.returns
returns c =
    let d = tail_done c.args.start c.args.before c.loop-x.at c.loop-x.here _ _ _ _ (drop_all c.loop-x.x-index c.args.xs.now (omega arith)) c.loop-x.invariant in
    ap (λ n. take n c.loop-x.out) (sym d.0) ∙ d.1
