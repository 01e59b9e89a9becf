-- The live numbers of one list more.
use Rattle.std.proofs.Common.{◌∙◌, ap, sym, subst}
use Rattle.std.specs.List.Sorted.{IsStrictlyIncreasing}
use Rattle.std.proofs.lemmas.List.Kept.{IsStrictlyIncreasing-filter}
use Rattle.pk_sets.specs.Sets.{has, union}
use Rattle.pk_match.proofs.PutsLemmas.{puts_as}
use Rattle.pk_live.proofs.prefix.unite_live.Goals as goal

pub put-requires : goal.put-requires
put-requires c = subst IsStrictlyIncreasing (sym (c.deref.ensures.value ∙ c.in_ok-put_live.ensures)) (IsStrictlyIncreasing-filter (has c.args.list.now) c.args.live.now c.requires.live)

pub returns : goal.returns
returns c = puts_as c.put.result c.put.new.self _ _ (ap (union c.args.united.now) (c.deref.ensures.value ∙ c.in_ok-put_live.ensures)) c.put.ensures
