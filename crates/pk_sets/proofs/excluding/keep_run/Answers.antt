-- The run of the first list stands, and the difference of what is left follows.
use Rattle.std.proofs.Common.{arith, ap, sym, ◌∙◌, ◌-◌, ◌++◌, take, drop, append_assoc}
use Rattle.std.specs.Simd.Lanes.{chunk}
use Rattle.pk_sets.specs.Sets.{difference}
use Rattle.pk_sets.proofs.ExclusionLemmas.{difference_to}
use Rattle.pk_sets.proofs.excluding.keep_run.Goals as goal

pub returns-clause-reaches : goal.returns-clause-reaches
returns-clause-reaches c =
    let a = c.args.a.now in
    let b = c.args.b.now in
    let at = c.args.at in
    let end = c.put_below-end.result in
    let front = take at.written c.args.out.now in
    let run = chunk at.a (end - at.a) a in
    let after = difference (drop end a) (drop at.b b) in
    let step = difference_to a b c.requires.rising_a c.requires.rising_b at.a end at.b c.put_below-end.ensures.lower c.put_below-end.ensures.upper c.put_below-end.ensures.before in
    record {
      in_a = omega arith;
      in_b = omega arith;
      found = ap (λ l. l ++ after) c.put_below-end.ensures.found ∙ append_assoc front run after ∙ ap (λ l. front ++ l) (sym step);
    }
