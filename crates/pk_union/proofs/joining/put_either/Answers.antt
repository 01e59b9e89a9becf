-- What is kept rises.
use Rattle.std.proofs.Common.{◌∙◌, ap, List, ℕ}
use Rattle.std.specs.Global.{Vec}
use Rattle.pk_sets.specs.Sets.{union}
use Rattle.pk_union.proofs.JoinLemmas.{either_rises}
use Rattle.pk_union.proofs.joining.put_either.Goals as goal

pub returns-clause-rising : goal.returns-clause-rising
returns-clause-rising c = either_rises c.args.numbers.now.items c.args.list.now c.swap.new.x.items c.requires.list
    (ap (λ (v : Vec ℕ). v.items) c.swap.ensures.x_after ∙ c.in_ok-either_into.ensures ∙ ap (λ (xs : List ℕ). union xs c.args.list.now) c.deref.ensures.value)
