-- One more part.
use Rattle.std.proofs.Common.{◌∙◌, ap, take, drop, length, ◌+◌, List, ℕ, arith, rules}
use Rattle.std.proofs.lemmas.List.{length-append}
use Rattle.pk_segment.proofs.Window.{stretch_more}
use Rattle.pk_segment.proofs.stretch.stretch.Goals as goal

pub loop-done-preserved : goal.loop-done-preserved
loop-done-preserved g c =
    let content = g.S.ByteSource.content in
    let n = c.min-n.result in
    let once = c.bytes.follows.holds-at-none in
    record {
      left = search rules;
      within = omega (arith, c.min-n.ensures, c.loop-done-test.true);
      put = ap length c.in_ok-extend_from_slice.ensures.items ∙ omega (arith, length-append c.loop-done.out.items c.in_ok-part.part.now, c.in_ok-part.ensures.lent, c.loop-done.invariant.put);
      read = λ h. c.in_ok-extend_from_slice.ensures.items ∙ stretch_more (content c.args.source.now) c.loop-done.out.items c.in_ok-part.part.now c.args.at c.loop-done.done n (c.loop-done.invariant.read h)
          (c.in_ok-part.ensures.value h ∙ ap (λ (x : List ℕ). take n (drop (c.args.at + c.loop-done.done) x)) (c.loop-done.invariant.left.same h));
      asked = omega (arith, c.min-n.ensures, c.loop-done-test.true, once.counted, c.loop-done.invariant.asked);
    }
