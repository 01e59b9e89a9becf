-- The list at the top is taken off and united.
use Rattle.std.proofs.Common.{◌∙◌, ◌++◌, ◌∷◌, [], List, ℕ, length, length-append, ap, sym, subst, arith}
use Rattle.std.specs.Global.{Vec}
use Rattle.std.specs.List.Sorted.{IsStrictlyIncreasing}
use Rattle.pk_union.proofs.UnionLemmas.{all_stacked, rest_rise, stacked, taken_off, top_rises}
use Rattle.pk_union.specs.Stack.{IsStack, lengths_of}
use Rattle.pk_union.specs.Uniting.{items_of, union_of}
use Rattle.pk_union.proofs.StackLemmas.{stack_below, lengths_on}
use Rattle.pk_sets.specs.Sets.{union}
use Rattle.pk_union.proofs.uniting.stack_list.Goals as goal

pub put_either-requires-clause-list : goal.put_either-requires-clause-list
put_either-requires-clause-list c =
    subst IsStrictlyIncreasing (sym c.deref.ensures.value) (top_rises c.shorter.lists.items c.pop_short.new.lists.items c.in-Some.below c.in-Some.ensures.popped c.shorter.invariant.rising)

pub shorter-preserved : goal.shorter-preserved
shorter-preserved c =
    let before = c.shorter.invariant in
    let lists = c.shorter.lists.items in
    let left = c.pop_short.new.lists.items in
    record {
      rising = rest_rise lists left c.in-Some.below c.in-Some.ensures.popped before.rising;
      top = c.in_ok-put_either.ensures.rising;
      same = ap (union (union_of (items_of left))) (c.in_ok-put_either.ensures.numbers ∙ ap (union c.shorter.top.items) c.deref.ensures.value)
          ∙ taken_off lists left c.in-Some.below c.shorter.top.items c.in-Some.ensures.popped before.rising before.top ∙ before.same;
      stack = λ was. stack_below lists left c.in-Some.below c.in-Some.ensures.popped (before.stack was);
    }

pub shorter-smaller : goal.shorter-smaller
shorter-smaller c = omega (arith, ap length c.in-Some.ensures.popped, length-append c.pop_short.new.lists.items (c.in-Some.below ∷ []))

pub returns-clause-numbers : goal.returns-clause-numbers
returns-clause-numbers c =
    stacked c.shorter.lists.items c.push.new.self.items c.shorter.top (c.in_ok-push.ensures.items ∙ ap (λ (ls : List (Vec ℕ)). ls ++ c.shorter.top ∷ []) c.in_default.ensures.popped) c.shorter.invariant.top ∙ c.shorter.invariant.same

pub returns-clause-rising : goal.returns-clause-rising
returns-clause-rising c =
    all_stacked c.shorter.lists.items c.push.new.self.items c.shorter.top (c.in_ok-push.ensures.items ∙ ap (λ (ls : List (Vec ℕ)). ls ++ c.shorter.top ∷ []) c.in_default.ensures.popped) c.shorter.invariant.rising c.shorter.invariant.top

pub returns-clause-stack : goal.returns-clause-stack
returns-clause-stack c = λ was.
    let lists = c.shorter.lists.items in
    subst IsStack
    (sym (ap lengths_of (c.in_ok-push.ensures.items ∙ ap (λ (ls : List (Vec ℕ)). ls ++ c.shorter.top ∷ []) c.in_default.ensures.popped) ∙ lengths_on lists c.shorter.top))
    (subst (λ (n : ℕ). IsStack (lengths_of lists ++ n ∷ [])) (c.len.ensures ∙ c.shorter.top.ok.0) (c.in_default.ensures.stack (c.shorter.invariant.stack was)))

pub returns-in_err-put_either-clause-rising : goal.returns-in_err-put_either-clause-rising
returns-in_err-put_either-clause-rising c =
    rest_rise c.shorter.lists.items c.pop_short.new.lists.items c.in-Some.below c.in-Some.ensures.popped c.shorter.invariant.rising

pub returns-in_err-put_either-clause-stack : goal.returns-in_err-put_either-clause-stack
returns-in_err-put_either-clause-stack c = λ was.
    stack_below c.shorter.lists.items c.pop_short.new.lists.items c.in-Some.below c.in-Some.ensures.popped (c.shorter.invariant.stack was)
