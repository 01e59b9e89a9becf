-- The head of the first list is kept where it is the lower one.
use Rattle.std.proofs.Common.{arith, ap, sym, ◌∙◌, ◌+◌, ◌-◌, ◌++◌, ◌∷◌, [], slice_index, take, drop, append_assoc}
use Rattle.pk_sets.specs.Sets.{difference}
use Rattle.pk_sets.proofs.UnionLemmas.{Heads}
use Rattle.pk_sets.proofs.ExclusionLemmas.{difference_step}
use Rattle.pk_sets.proofs.excluding.exclude_one.Goals as goal

pub returns-clause-reaches : goal.returns-clause-reaches
returns-clause-reaches c =
    let a = c.args.a.now in
    let b = c.args.b.now in
    let at = c.args.at in
    let front = take at.written c.args.out.now in
    let heads : Heads a b at.a at.b = record {
      rising_a = c.requires.rising_a;
      rising_b = c.requires.rising_b;
      left = c.requires.left;
      right = c.requires.right;
    } in
    let step = difference_step a b at.a at.b c.one_up_to.result c.one_up_to-past.result heads
    c.one_up_to.ensures.one c.one_up_to.ensures.none c.one_up_to-past.ensures.one c.one_up_to-past.ensures.none in
    let kept = take (1 - c.one_up_to-past.result) (slice_index a at.a ∷ []) in
    let after = difference (drop (at.a + c.one_up_to.result) a) (drop (at.b + c.one_up_to-past.result) b) in
    record {
      in_a = omega arith;
      in_b = omega arith;
      found = ap (λ l. l ++ after) c.keep.ensures.found ∙ append_assoc front kept after ∙ ap (λ l. front ++ l) (sym step);
    }
