use Rattle.std.proofs.Common.{◌≡◌, ◌+◌, ◌*◌, ◌∙◌, IsTrue, ap, sym, arith, slice_index}
use Rattle.pk_posting.proofs.decoding.is_right.Goals as goal

pub returns-clause-only : goal.returns-clause-only
returns-clause-only c ys g =
    let same : c.args.xs.now ≡ ys = (c.is_right_block.ensures.only ys g.good).1 in
    let up : IsTrue c.ends_with.result = c.ends_with.ensures.1 (λ i l. (
    let place : 4 + 20 * c.args.k + 4 + 4 * i ≡ 8 + 20 * c.args.k + 4 * i = omega arith in
    rw place (g.last i l ∙ ap (λ v. slice_index v (124 + i)) (sym same)))) in
    (up, same)
