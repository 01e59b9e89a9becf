-- What is kept rises.
use Rattle.std.proofs.Common.{sym, subst}
use Rattle.std.specs.List.Sorted.{IsStrictlyIncreasing}
use Rattle.pk_sets.proofs.CallerLemmas.{intersection_rises}
use Rattle.pk_lookup.proofs.lists.cut_in.Goals as goal

pub returns-then-not-is_rising-clause-numbers : goal.returns-then-not-is_rising-clause-numbers
returns-then-not-is_rising-clause-numbers g c = λ honest xs lies.
    let yes = c.is_rising.ensures.1 (subst IsStrictlyIncreasing (sym c.deref.ensures.value) (intersection_rises c.args.numbers.now.items xs c.seek_each.new.numbers.items c.requires (c.in_ok-seek_each.ensures.numbers honest xs lies))) in
    cc (yes, c.if-not-is_rising.true)
