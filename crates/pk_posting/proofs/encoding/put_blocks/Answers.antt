use Rattle.std.proofs.Common.{rules, arith, ◌∙◌}
use Rattle.pk_posting.proofs.PlacingLemmas.{blocks_start, place_of, room_of, offset_fits, blocks_more, blocks_all}
use Rattle.pk_posting.proofs.encoding.put_blocks.Goals as goal

pub loop-k-init : goal.loop-k-init
loop-k-init c = blocks_start c.args.xs.now c.args.head.now c.args.body.now

pub put_widths-at-requires-clause-room : goal.put_widths-at-requires-clause-room
put_widths-at-requires-clause-room c =
    let p = place_of c.args.xs.now c.loop-k.k c.loop-k.at c.args.head.now c.loop-k.head c.loop-k.body c.loop-k.invariant in
    let r = room_of c.args.xs.now c.loop-k.k c.loop-k-test.true in
    omega (arith, p, r)

pub overflow_cast-at : goal.overflow_cast-at
overflow_cast-at c =
    let p = c.put_widths-at.ensures.end ∙ place_of c.args.xs.now c.loop-k.k c.loop-k.at c.args.head.now c.loop-k.head c.loop-k.body c.loop-k.invariant in
    let f = offset_fits c.args.xs.now c.loop-k.k c.requires.posting c.loop-k-test.true in
    search (rules, p, f)

pub put_entry-requires-clause-offset : goal.put_entry-requires-clause-offset
put_entry-requires-clause-offset c =
    c.put_widths-at.ensures.end ∙ place_of c.args.xs.now c.loop-k.k c.loop-k.at c.args.head.now c.loop-k.head c.loop-k.body c.loop-k.invariant

pub put_packed-requires-clause-room : goal.put_packed-requires-clause-room
put_packed-requires-clause-room c =
    let p = c.put_widths-at.ensures.end ∙ place_of c.args.xs.now c.loop-k.k c.loop-k.at c.args.head.now c.loop-k.head c.loop-k.body c.loop-k.invariant in
    let r = room_of c.args.xs.now c.loop-k.k c.loop-k-test.true in
    omega (arith, p, r, c.differences_at-width.ensures.width)

pub loop-k-preserved : goal.loop-k-preserved
loop-k-preserved c =
    blocks_more c.args.xs.now c.loop-k.k c.loop-k.at c.put_widths-at.result c.differences_at-width.result c.args.head.now c.loop-k.head c.put_entry.new.head
    c.loop-k.body c.put_widths-at.new.out c.put_packed.new.out c.differences_at-width.new.differences c.loop-k.invariant
    c.put_widths-at.ensures.end c.put_widths-at.ensures.written c.put_entry.ensures c.put_packed.ensures
    c.differences_at-width.ensures.differences c.differences_at-width.ensures.width

pub returns-clause-end : goal.returns-clause-end
returns-clause-end c = (blocks_all c.args.xs.now c.loop-k.k c.loop-k.at c.args.head.now c.loop-k.head c.loop-k.body (omega arith) c.loop-k.invariant).0

pub returns-clause-body : goal.returns-clause-body
returns-clause-body c = (blocks_all c.args.xs.now c.loop-k.k c.loop-k.at c.args.head.now c.loop-k.head c.loop-k.body (omega arith) c.loop-k.invariant).1
