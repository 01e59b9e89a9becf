-- The neighbours of the sorted ids tell of all.
use Rattle.std.proofs.Common.{◌≡◌, List, ℕ, ltb, map, rules, subst}
use Rattle.std.specs.List.Sorted.{IsPermutation}
use Rattle.std.specs.List.{IsAllAdjacentAnswer}
use Rattle.std.proofs.lemmas.List.Sorted.{IsNonDecreasingBy-from_sort, answers_always}
use Rattle.pk_manifest.proofs.Apart.{parts_distinct}
use Rattle.pk_manifest.specs.declared.manifest.Part.{Part}
use Rattle.pk_manifest.proofs.checking.are_distinct.Goals as goal

pub returns : goal.returns
returns c =
    let sorted = c.sort_unstable.new.self.items in
    let permuted : IsPermutation (map (λ (p : Part). p.segment) c.args.parts.now) sorted = subst (λ (ids : List ℕ). IsPermutation ids sorted) c.in_ok-ids.ensures c.sort_unstable.ensures.permutation in
    let told = c.is_sorted_by.ensures.cases ltb (answers_always _ _ _ (λ f a r q k. search rules)) in
    parts_distinct c.args.parts.now sorted permuted (IsNonDecreasingBy-from_sort (λ (id : ℕ). id) sorted c.sort_unstable.ensures.sorted) c.is_sorted_by.result
    (subst (λ (ids : List ℕ). IsAllAdjacentAnswer (λ a b t. t ≡ ltb a b) ids c.is_sorted_by.result) c.deref.ensures.value told)
