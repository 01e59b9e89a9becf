-- The run of the second list stands, and the union of what is left follows.
use Rattle.std.proofs.Common.{arith, ap, sym, ◌∙◌, ◌-◌, ◌++◌, take, drop, append_assoc}
use Rattle.std.specs.Simd.Lanes.{chunk}
use Rattle.pk_sets.specs.Sets.{union}
use Rattle.pk_sets.proofs.UnionLemmas.{union_to}
use Rattle.pk_sets.proofs.uniting.copy_run.Goals as goal

pub returns-clause-reaches : goal.returns-clause-reaches
returns-clause-reaches c =
    let a = c.args.a.now in
    let b = c.args.b.now in
    let at = c.args.at in
    let end = c.put_below-end.result in
    let front = take at.written c.args.out.now in
    let run = chunk at.b (end - at.b) b in
    let after = union (drop at.a a) (drop end b) in
    let step = union_to a b c.requires.rising_a c.requires.rising_b at.a at.b end c.put_below-end.ensures.lower c.put_below-end.ensures.upper c.put_below-end.ensures.before in
    record {
      in_a = omega arith;
      in_b = omega arith;
      found = ap (λ l. l ++ after) c.put_below-end.ensures.found ∙ append_assoc front run after ∙ ap (λ l. front ++ l) (sym step);
    }
