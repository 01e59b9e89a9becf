-- The words so far, and those of what is left of the phrase.
use Rattle.std.proofs.Common.{◌≡◌, ◌≤◌, ◌++◌, map, take, length, reverse, string_bytes}
use Rattle.pk_plan.specs.Words.{texts}
use Rattle.pk_plan.proofs.words.put_row.Given as goal

abbrev pub invariant-words : goal.invariant-words
invariant-words l = record {
  within : l.left ≤ length l.row;
  words : texts l.words.items ++ reverse (take l.left (map string_bytes l.row)) ≡ texts l.fn.words.items ++ reverse (map string_bytes l.row);
}

abbrev pub decreases-words : goal.decreases-words
decreases-words l = l.left
