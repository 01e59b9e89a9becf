-- What is written, and the intersection of what is left.
use Rattle.std.proofs.Common.{arith, sym, ap, ◌∙◌, ◌+◌, ◌++◌, length, slice_index, take, drop, append_assoc, inl, inr, length-append}
use Rattle.std.specs.Simd.Lanes.{chunk}
use Rattle.std.proofs.lemmas.List.{length-take}
use Rattle.pk_sets.specs.Sets.{intersection}
use Rattle.pk_sets.proofs.merging.both_merge.Goals.{then-x-y, else-x-y, then-y-x, else-y-x}
use Rattle.pk_sets.proofs.PartLemmas.{Places, Goes, goes_at_most, fours, size_intersection}
use Rattle.pk_sets.proofs.merging.both_merge.Goals as goal

pub fours-preserved : goal.fours-preserved
fours-preserved c =
    let p : Places c.args.a.now c.args.b.now c.fours.i c.fours.j 4 = record {
      rising_a = c.requires.rising_a;
      rising_b = c.requires.rising_b;
      some = omega arith;
      left = omega arith;
      right = omega arith;
    } in
    let x = slice_index c.args.a.now (c.fours.i + 3) in
    let y = slice_index c.args.b.now (c.fours.j + 3) in
    let left : Goes x y c.if-x-y.i = elim c.if-x-y.branch [ then-x-y w ↦ inl (w.if-x-y.true, w.i-is) | else-x-y w ↦ inr (w.if-x-y.false, w.i-is) ] in
    let right : Goes y x c.if-y-x.j = elim c.if-y-x.branch [ then-y-x w ↦ inl (w.if-y-x.true, w.j-is) | else-y-x w ↦ inr (w.if-y-x.false, w.j-is) ] in
    let e = fours c.args.a.now c.args.b.now c.fours.i c.fours.j c.if-x-y.i c.if-y-x.j p left right in
    let met = intersection (chunk c.fours.i 4 c.args.a.now) (chunk c.fours.j 4 c.args.b.now) in
    let after = intersection (drop (c.fours.i + c.if-x-y.i) c.args.a.now) (drop (c.fours.j + c.if-y-x.j) c.args.b.now) in
    record {
      in_a = omega (arith, goes_at_most _ _ _ left);
      in_b = omega (arith, goes_at_most _ _ _ right);
      in_out = c.meet-n.ensures.within;
      found = ap (λ l. l ++ after) c.meet-n.ensures.found ∙ append_assoc (take c.fours.n c.fours.out) met after
          ∙ ap (λ l. take c.fours.n c.fours.out ++ l) (sym e) ∙ c.fours.invariant.found;
    }

pub merge_rest-requires-clause-room : goal.merge_rest-requires-clause-room
merge_rest-requires-clause-room c =
    let size = size_intersection c.args.a.now c.args.b.now c.requires.rising_a c.requires.rising_b in
    let parts = sym (length-append (take c.fours.n c.fours.out) (intersection (drop c.fours.i c.args.a.now) (drop c.fours.j c.args.b.now))) ∙ ap length c.fours.invariant.found in
    let front = length-take c.fours.n c.fours.out in
    omega (arith, size, parts, front)
