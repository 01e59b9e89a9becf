-- The neighbours of the sorted extents tell of all.
use Rattle.std.proofs.Common.{leb, rules}
use Rattle.std.proofs.lemmas.List.Sorted.{IsNonDecreasingBy-from_sort_by_key, answers_always}
use Rattle.pk_disk.specs.declared.units.Extent.{Extent}
use Rattle.pk_disk.specs.Units.{end_of}
use Rattle.pk_manifest.proofs.Apart.{extents_apart}
use Rattle.pk_manifest.proofs.checking.are_apart.Goals as goal

pub returns : goal.returns
returns c =
    let sorted = c.sort_unstable_by_key.new.self in
    let rises = IsNonDecreasingBy-from_sort_by_key (λ (e : Extent). e.first) sorted c.sort_unstable_by_key.ensures.sorted (λ a r q k. search rules) in
    extents_apart c.args.extents.now sorted c.sort_unstable_by_key.ensures.permutation rises c.requires c.is_sorted_by.result
    (c.is_sorted_by.ensures.cases (λ (e f : Extent). leb (end_of e) f.first) (answers_always _ _ _ (λ f a r q k. search rules)))
