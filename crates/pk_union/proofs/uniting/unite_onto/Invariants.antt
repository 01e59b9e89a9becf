-- The lists left and what is put out have the numbers of all; fewer lists are left.
use Rattle.std.proofs.Common.{◌≡◌, length, All}
use Rattle.std.specs.List.Sorted.{IsStrictlyIncreasing}
use Rattle.pk_union.specs.Stack.{IsStack, lengths_of}
use Rattle.pk_union.specs.Uniting.{items_of, union_of}
use Rattle.pk_sets.specs.Sets.{union}
use Rattle.pk_union.proofs.uniting.unite_onto.Given as goal

abbrev pub invariant-lists : goal.invariant-lists
invariant-lists l = record {
  rising : All IsStrictlyIncreasing (items_of l.lists.items);
  out : IsStrictlyIncreasing l.out.items;
  same : union (union_of (items_of l.lists.items)) l.out.items ≡ union (union_of (items_of l.fn.lists.items)) l.fn.out.items;
  stack : IsStack (lengths_of l.fn.lists.items) → IsStack (lengths_of l.lists.items);
}

abbrev pub decreases-lists : goal.decreases-lists
decreases-lists l = length l.lists.items
