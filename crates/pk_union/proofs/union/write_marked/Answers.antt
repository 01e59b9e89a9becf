-- One mark more: its number is written in either case.
use Rattle.std.proofs.Common.{◌≡◌, ◌+◌, ◌≤◌, Bool, true, false, slice_index_or, refl, arith}
use mir.Val.{bool_byte}
use Rattle.std.proofs.lemmas.List.{get_or_default}
use Rattle.pk_union.proofs.MarkLemmas.{write_more}
use Rattle.pk_union.proofs.union.write_marked.Goals as goal

one_at_most : (mark : Bool) → bool_byte mark ≤ 1
one_at_most true = omega arith
one_at_most false = omega arith

pub loop-i-preserved : goal.loop-i-preserved
loop-i-preserved c =
    let before = c.loop-i.invariant in
    let marks = c.args.marks.now in
    let i = c.loop-i.i in
    let mark = slice_index_or marks i false in
    let one : c.from-count.result ≡ bool_byte mark = c.from-count.ensures in
    record {
      behind = omega (arith, before.behind, one, one_at_most mark);
      written = write_more c.args.first marks c.loop-i.out c.loop-i.count i (c.args.first + i) c.from-count.result mark c.loop-i-test.true
          (get_or_default marks i false mark c.loop-i-test.true) refl one (omega (arith, before.behind, c.loop-i-test.true, c.requires.room, c.loop-i.auto.out)) before.written;
    }
