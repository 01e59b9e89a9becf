-- The run of the second list is passed, and the difference stays.
use Rattle.std.proofs.Common.{arith, ap, sym, ◌++◌, take}
use Rattle.pk_sets.proofs.ExclusionLemmas.{difference_past}
use Rattle.pk_sets.proofs.excluding.pass_run.Goals as goal

pub returns-clause-reaches : goal.returns-clause-reaches
returns-clause-reaches c out =
    let at = c.args.at in
    let step = difference_past c.args.a.now c.args.b.now c.requires.rising_a c.requires.rising_b at.a at.b c.next_from.result
    c.next_from.ensures.lower c.next_from.ensures.upper c.next_from.ensures.before in
    record {
      in_a = omega arith;
      in_b = omega arith;
      found = ap (λ l. take at.written out ++ l) (sym step);
    }
