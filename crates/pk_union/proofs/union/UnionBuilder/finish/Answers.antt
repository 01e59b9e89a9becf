-- The lists on the stack come to the marked numbers.
use Rattle.std.proofs.Common.{◌∙◌, ap, sym, subst}
use Rattle.std.proofs.lemmas.Result.{on_ok_weaker}
use Rattle.std.specs.List.Sorted.{IsStrictlyIncreasing}
use Rattle.pk_union.specs.Union.{marked}
use Rattle.pk_union.specs.Uniting.{items_of, union_of}
use Rattle.pk_union.proofs.MarkLemmas.{marked_rises, put_united}
use Rattle.pk_sets.specs.Sets.{union}
use Rattle.pk_union.proofs.union.UnionBuilder.finish.Goals as goal

pub unite_onto-requires-clause-out : goal.unite_onto-requires-clause-out
unite_onto-requires-clause-out c =
    subst IsStrictlyIncreasing (sym c.in_ok-put_marked.ensures) (marked_rises c.builder.inside.first c.deref.result.now)

pub returns-clause-numbers : goal.returns-clause-numbers
returns-clause-numbers c =
    let u = c.builder.inside in
    let all = union_of (items_of u.lists.items) in
    on_ok_weaker c.unite_onto.result (λ is. (
    put_united u.first u.marks.items u.lists.items c.unite_onto.new.out.items c.builder.invariant.0.rising
    (is ∙ ap (union all) (c.in_ok-put_marked.ensures ∙ ap (marked u.first) c.deref.ensures.value))
    ∙ c.builder.view_is)) c.unite_onto.ensures.numbers
