-- What is kept rises.
use Rattle.std.proofs.Common.{◌∙◌, ap, List, ℕ}
use Rattle.std.specs.Global.{Vec}
use Rattle.pk_sets.specs.Sets.{intersection}
use Rattle.pk_sets.proofs.CallerLemmas.{intersection_rises}
use Rattle.pk_union.proofs.joining.keep_both.Goals as goal

pub returns-clause-rising : goal.returns-clause-rising
returns-clause-rising c = intersection_rises c.args.numbers.now.items c.args.list.now c.swap.new.x.items c.requires.numbers
    (ap (λ (v : Vec ℕ). v.items) c.swap.ensures.x_after ∙ c.in_ok-both_into.ensures ∙ ap (λ (xs : List ℕ). intersection xs c.args.list.now) c.deref.ensures.value)
