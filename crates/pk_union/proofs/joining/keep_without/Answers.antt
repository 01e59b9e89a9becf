-- What is kept rises; nothing is left out by an empty list.
use Rattle.std.proofs.Common.{◌∙◌, ap, List, ℕ}
use Rattle.std.specs.Global.{Vec}
use Rattle.pk_sets.specs.Sets.{difference}
use Rattle.pk_union.proofs.JoinLemmas.{without_none, without_rises}
use Rattle.pk_union.proofs.joining.keep_without.Goals as goal

pub returns-clause-rising : goal.returns-clause-rising
returns-clause-rising c = without_rises c.args.numbers.now.items c.args.list.now c.swap.new.x.items c.requires.numbers
    (ap (λ (v : Vec ℕ). v.items) c.swap.ensures.x_after ∙ c.in_ok-without_into.ensures ∙ ap (λ (xs : List ℕ). difference xs c.args.list.now) c.deref.ensures.value)

pub returns-then-is_empty-clause-numbers : goal.returns-then-is_empty-clause-numbers
returns-then-is_empty-clause-numbers c = without_none c.args.numbers.now.items c.args.list.now c.is_empty.result c.is_empty.ensures c.if-is_empty.true
