-- The lists left and the one that grows have the numbers of all; fewer lists are left.
use Rattle.std.proofs.Common.{◌≡◌, length, All}
use Rattle.std.specs.List.Sorted.{IsStrictlyIncreasing}
use Rattle.pk_union.specs.Stack.{IsStack, lengths_of}
use Rattle.pk_union.specs.Uniting.{items_of, union_of}
use Rattle.pk_sets.specs.Sets.{union}
use Rattle.pk_union.proofs.uniting.stack_list.Given as goal

abbrev pub invariant-shorter : goal.invariant-shorter
invariant-shorter l = record {
  rising : All IsStrictlyIncreasing (items_of l.lists.items);
  top : IsStrictlyIncreasing l.top.items;
  same : union (union_of (items_of l.lists.items)) l.top.items ≡ union (union_of (items_of l.fn.lists.items)) l.fn.list.items;
  stack : IsStack (lengths_of l.fn.lists.items) → IsStack (lengths_of l.lists.items);
}

abbrev pub decreases-shorter : goal.decreases-shorter
decreases-shorter l = length l.lists.items
