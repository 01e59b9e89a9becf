-- The numbers that are there are those of the words so far.
use Rattle.std.proofs.Common.{◌≡◌, ℕ, take}
use Rattle.std.specs.List.{list_any}
use Rattle.pk_index.specs.Terms.{words_in}
use Rattle.pk_sets.specs.Sets.{has}
use Rattle.pk_live.proofs.PrefixLemmas.{gives}
use Rattle.pk_live.proofs.prefix.put_with_prefix.Given as goal

abbrev pub invariant-loop-place : goal.invariant-loop-place
invariant-loop-place l = (n : ℕ) → has l.united n ≡ list_any (gives l.index l.live l.prefix n) (take l.place (words_in l.index))
