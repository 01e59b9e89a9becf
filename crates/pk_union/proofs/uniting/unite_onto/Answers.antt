-- The list at the top is taken off and united; at the end none is left.
use Rattle.std.proofs.Common.{◌≡◌, ◌∙◌, ◌∷◌, [], List, ℕ, length, length-append, ap, refl, sym, subst, arith}
use Rattle.std.specs.Global.{Vec}
use Rattle.std.specs.List.Sorted.{IsStrictlyIncreasing}
use Rattle.pk_union.proofs.StackLemmas.{stack_below}
use Rattle.pk_union.proofs.UnionLemmas.{rest_rise, taken_off, top_rises}
use Rattle.pk_union.specs.Uniting.{items_of, union_of}
use Rattle.pk_sets.specs.Sets.{union}
use Rattle.pk_union.proofs.uniting.unite_onto.Goals as goal

none_left : (lists : List (Vec ℕ)) → length lists ≡ 0 → lists ≡ []
none_left [] e = refl
none_left (v ∷ lists) e = absurd (omega (arith, e))

pub put_either-requires-clause-list : goal.put_either-requires-clause-list
put_either-requires-clause-list c =
    subst IsStrictlyIncreasing (sym c.deref.ensures.value) (top_rises c.lists.lists.items c.pop.new.self.items c.in-Some.below c.in-Some.ensures.items c.lists.invariant.rising)

pub lists-preserved : goal.lists-preserved
lists-preserved c =
    let before = c.lists.invariant in
    let lists = c.lists.lists.items in
    let left = c.pop.new.self.items in
    record {
      rising = rest_rise lists left c.in-Some.below c.in-Some.ensures.items before.rising;
      out = c.in_ok-put_either.ensures.rising;
      same = ap (union (union_of (items_of left))) (c.in_ok-put_either.ensures.numbers ∙ ap (union c.lists.out.items) c.deref.ensures.value)
          ∙ taken_off lists left c.in-Some.below c.lists.out.items c.in-Some.ensures.items before.rising before.out ∙ before.same;
      stack = λ was. stack_below lists left c.in-Some.below c.in-Some.ensures.items (before.stack was);
    }

pub lists-smaller : goal.lists-smaller
lists-smaller c = omega (arith, ap length c.in-Some.ensures.items, length-append c.pop.new.self.items (c.in-Some.below ∷ []))

pub returns-in_err-put_either-clause-left : goal.returns-in_err-put_either-clause-left
returns-in_err-put_either-clause-left c =
    rest_rise c.lists.lists.items c.pop.new.self.items c.in-Some.below c.in-Some.ensures.items c.lists.invariant.rising

pub returns-in_err-put_either-clause-stack : goal.returns-in_err-put_either-clause-stack
returns-in_err-put_either-clause-stack c = λ was.
    stack_below c.lists.lists.items c.pop.new.self.items c.in-Some.below c.in-Some.ensures.items (c.lists.invariant.stack was)

pub returns-clause-numbers : goal.returns-clause-numbers
returns-clause-numbers c =
    let none : c.lists.lists.items ≡ [] = none_left c.lists.lists.items (sym c.lists.lists.ok.0 ∙ c.in_default.ensures.cases.0) in
    ap (λ (ls : List (Vec ℕ)). union (union_of (items_of ls)) c.lists.out.items) (sym none) ∙ c.lists.invariant.same
