-- They rise, since no two of a sound body's overlap, and a half's own lie in front of them.
use Rattle.std.proofs.Common.{List, subst, rules}
use Rattle.std.specs.Prelude.{◌++◌}
use Rattle.std.specs.List.Sorted.{IsPermutation}
use Rattle.std.proofs.lemmas.List.Sorted.{IsNonDecreasingBy-from_sort_by_key}
use Rattle.pk_disk.specs.declared.units.Extent.{Extent}
use Rattle.pk_manifest.specs.Sound.{named}
use Rattle.pk_manifest.specs.Spelling.{view}
use Rattle.pk_snapshot.specs.Shown.{own_extents}
use Rattle.pk_snapshot.proofs.OrderLemmas.{sorted_rises}
use Rattle.pk_snapshot.proofs.shown.Shown.of.Goals as goal

pub invariant_of-result : goal.invariant_of-result
invariant_of-result c =
    let body = view c.args.manifest.now in
    let sorted = c.sort_by_key.new.self.items in
    let permuted : IsPermutation (named body ++ own_extents c.args.half) sorted = subst (λ (xs : List Extent). IsPermutation xs sorted) c.in_ok-extents.ensures c.sort_by_key.ensures.permutation in
    let by_first = IsNonDecreasingBy-from_sort_by_key (λ (e : Extent). e.first) sorted c.in_ok-sort_by_key.ensures.sorted (λ a r q k. search rules) in
    record { rising = sorted_rises c.args.half body c.requires sorted permuted by_first }

pub returns : goal.returns
returns c = subst (λ (xs : List Extent). IsPermutation xs c.sort_by_key.new.self.items) c.in_ok-extents.ensures c.sort_by_key.ensures.permutation
