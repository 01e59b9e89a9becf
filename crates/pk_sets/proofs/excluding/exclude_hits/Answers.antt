-- The four that are kept are those that no bit names.
use Rattle.std.proofs.Common.{arith, ◌≡◌, ◌/◌, ◌%◌, ◌+◌, ◌-◌, ◌++◌, ◌∷◌, [], ◌∙◌, ap, sym, cond, not, take, slice_index, bit_and}
use Rattle.std.specs.Simd.Lanes.{chunk}
use Rattle.std.proofs.lemmas.Simd.{get_or-chunk}
use Rattle.pk_sets.specs.Sets.{has}
use Rattle.pk_sets.proofs.LaneLemmas.{four_met, regroup, lowest}
use Rattle.pk_sets.proofs.HitLemmas.{left_out}
use Rattle.pk_sets.proofs.excluding.exclude_hits.Goals as goal

pub returns-clause-found : goal.returns-clause-found
returns-clause-found c ys bits =
    let hits = c.args.hits in
    let a = c.args.a.now in
    let i = c.args.i in
    let whole : hits ≡ hits / 1 = omega arith in
    let here : i + 0 ≡ i = omega arith in
    let front = take c.args.n c.args.out.now in
    let k0 = take (1 - bit_and hits 1) (slice_index a i ∷ []) in
    let k1 = take (1 - bit_and (hits / 2) 1) (slice_index a (i + 1) ∷ []) in
    let k2 = take (1 - bit_and (hits / 4) 1) (slice_index a (i + 2) ∷ []) in
    let k3 = take (1 - bit_and (hits / 8) 1) (slice_index a (i + 3) ∷ []) in
    let p0 = left_out (bit_and hits 1) (has ys (slice_index (chunk i 4 a) 0))
    (lowest hits ∙ ap (λ n. n % 2) whole ∙ bits 0 (omega arith) ∙ ap (λ x. cond (has ys x) 1 0) (sym (get_or-chunk i 4 a 0 0 (omega arith)))) in
    let p1 = left_out (bit_and (hits / 2) 1) (has ys (slice_index (chunk i 4 a) 1))
    (lowest (hits / 2) ∙ bits 1 (omega arith) ∙ ap (λ x. cond (has ys x) 1 0) (sym (get_or-chunk i 4 a 1 0 (omega arith)))) in
    let p2 = left_out (bit_and (hits / 4) 1) (has ys (slice_index (chunk i 4 a) 2))
    (lowest (hits / 4) ∙ bits 2 (omega arith) ∙ ap (λ x. cond (has ys x) 1 0) (sym (get_or-chunk i 4 a 2 0 (omega arith)))) in
    let p3 = left_out (bit_and (hits / 8) 1) (has ys (slice_index (chunk i 4 a) 3))
    (lowest (hits / 8) ∙ bits 3 (omega arith) ∙ ap (λ x. cond (has ys x) 1 0) (sym (get_or-chunk i 4 a 3 0 (omega arith)))) in
    c.keep.ensures.found
    ∙ ap (λ l. l ++ k3) (c.keep-n-3.ensures.found ∙ ap (λ l. l ++ k2) (c.keep-n-2.ensures.found ∙ ap (λ l. l ++ k1) c.keep-n.ensures.found))
    ∙ regroup front k0 k1 k2 k3
    ∙ ap (λ l. front ++ l)
    (four_met (λ x. not (has ys x)) a i c.requires.left (1 - bit_and hits 1) (1 - bit_and (hits / 2) 1) (1 - bit_and (hits / 4) 1) (1 - bit_and (hits / 8) 1) p0 p1 p2 p3)
