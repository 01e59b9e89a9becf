use Rattle.std.proofs.Common.{◌≡◌, ◌≤◌, ◌*◌, ◌/◌, ◌∷◌, length, slice_index, arith, ap, ◌∙◌}
use Rattle.pk_posting.proofs.RisingLemmas.{last_before, tail_climbs}
use Rattle.pk_posting.proofs.encoding.tail_at.Goals as goal

pub returns-clause-climbs : goal.returns-clause-climbs
returns-clause-climbs c =
    let n = 128 * (length c.args.xs.now / 128) in
    let h : n ≤ length c.args.xs.now = omega arith in
    let e : c.last_number.result ≡ slice_index (0 ∷ c.args.xs.now) n =
    c.last_number.ensures ∙ ap (λ ys. slice_index (0 ∷ ys) (length ys)) c.split_at.ensures.front ∙ last_before c.args.xs.now n h in
    rw (e, c.split_at.ensures.back) (tail_climbs c.args.xs.now n c.requires h)
