-- The four that are kept are the intersection of the fours.
use Rattle.std.proofs.Common.{arith, ◌≡◌, ◌/◌, ◌%◌, ◌+◌, ◌++◌, ◌∷◌, [], ◌∙◌, ap, take, slice_index, bit_and}
use Rattle.std.specs.Simd.Lanes.{chunk}
use Rattle.pk_sets.specs.Sets.{has}
use Rattle.pk_sets.proofs.LaneLemmas.{four_met, regroup, lowest}
use Rattle.pk_sets.proofs.merging.meet.Goals as goal

pub returns-clause-found : goal.returns-clause-found
returns-clause-found c =
    let hits = c.shared-hits.result in
    let a = c.args.a.now in
    let i = c.args.i in
    let whole : hits ≡ hits / 1 = omega arith in
    let k0 = take (bit_and hits 1) (slice_index a i ∷ []) in
    let k1 = take (bit_and (hits / 2) 1) (slice_index a (i + 1) ∷ []) in
    let k2 = take (bit_and (hits / 4) 1) (slice_index a (i + 2) ∷ []) in
    let k3 = take (bit_and (hits / 8) 1) (slice_index a (i + 3) ∷ []) in
    c.keep.ensures.found
    ∙ ap (λ l. l ++ k3) (c.keep-n-3.ensures.found ∙ ap (λ l. l ++ k2) (c.keep-n-2.ensures.found ∙ ap (λ l. l ++ k1) c.keep-n.ensures.found))
    ∙ regroup (take c.args.n c.args.out.now) k0 k1 k2 k3
    ∙ ap (λ l. take c.args.n c.args.out.now ++ l)
    (four_met (has (chunk c.args.j 4 c.args.b.now)) a i c.requires.left (bit_and hits 1) (bit_and (hits / 2) 1) (bit_and (hits / 4) 1) (bit_and (hits / 8) 1)
    (lowest hits ∙ ap (λ n. n % 2) whole ∙ c.shared-hits.ensures 0 (omega arith))
    (lowest (hits / 2) ∙ c.shared-hits.ensures 1 (omega arith))
    (lowest (hits / 4) ∙ c.shared-hits.ensures 2 (omega arith))
    (lowest (hits / 8) ∙ c.shared-hits.ensures 3 (omega arith)))
