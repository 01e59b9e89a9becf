-- It does not matter which list the gallop goes through.
use Rattle.std.proofs.Common.{◌∙◌}
use Rattle.pk_sets.proofs.IntersectionLemmas.{intersection_turned}
use Rattle.pk_sets.proofs.PartLemmas.{rising_all}
use Rattle.pk_sets.proofs.intersecting.both.Goals as goal

pub returns-then-is_far-2-clause-found : goal.returns-then-is_far-2-clause-found
returns-then-is_far-2-clause-found c =
    c.both_gallop-then-is_far-2.ensures.found
    ∙ intersection_turned c.args.b.now c.args.a.now (rising_all c.args.b.now c.requires.rising_b) (rising_all c.args.a.now c.requires.rising_a)
