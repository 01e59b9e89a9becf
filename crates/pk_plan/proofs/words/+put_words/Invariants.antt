-- The words so far, and those of what is left of the query.
use Rattle.std.proofs.Common.{◌≡◌, ◌≤◌, ◌++◌, reverse}
use Rattle.pk_model.specs.declared.queries.Query.{size-Query}
use Rattle.pk_model.specs.Tree.{tree_of}
use Rattle.pk_plan.specs.Words.{leaves, texts}
use Rattle.pk_plan.proofs.words.+put_words.Given as goal

abbrev pub invariant-loop-rest : goal.invariant-loop-rest
invariant-loop-rest l = record {
  deep : size-Query l.rest ≤ size-Query l.query;
  words : texts l.words.items ++ reverse (leaves (tree_of l.rest)) ≡ texts l.fn.words.items ++ reverse (leaves (tree_of l.query));
}
