-- The runs between the sorted extents are the free units.
use Rattle.std.proofs.Common.{◌≡◌, ◌∙◌, ◌&&◌, Bool, List, ap, arith, leb, ltb, not, rules}
use Rattle.std.specs.List.{list_all}
use Rattle.std.proofs.lemmas.List.Sorted.{IsNonDecreasingBy-from_sort_by_key}
use Rattle.pk_disk.specs.declared.units.Extent.{Extent}
use Rattle.pk_disk.specs.Units.{lies_within}
use Rattle.pk_space.specs.Runs.{are_spaced, gaps, is_in_run}
use Rattle.pk_space.specs.declared.runs.Run.{Run}
use Rattle.pk_space.proofs.GapLemmas.{all_sorted, free_of_gaps, gaps_are_spaced, rises_sorted}
use Rattle.pk_space.proofs.JoinLemmas.{lies_wider}
use Rattle.pk_space.proofs.space.Space.of.Goals as goal

pub runs_between-requires : goal.runs_between-requires
runs_between-requires c =
    let joined = c.in_ok-sorted.sorted.items in
    ap (list_all (lies_within c.args.units)) c.deref.ensures.value ∙ all_sorted c.args.units joined c.sort_by_key.new.self.items c.sort_by_key.ensures.permutation (c.in_ok-sorted.ensures.within c.args.units c.requires)

pub invariant_of-result : goal.invariant_of-result
invariant_of-result c =
    let joined = c.in_ok-sorted.sorted.items in
    let all = all_sorted c.args.units joined c.sort_by_key.new.self.items c.sort_by_key.ensures.permutation (c.in_ok-sorted.ensures.within c.args.units c.requires) in
    let is : c.in_ok-runs.runs.items ≡ gaps 34 c.args.units c.sort_by_key.new.self.items = c.in_ok-runs.ensures ∙ ap (gaps 34 c.args.units) c.deref.ensures.value in
    record { spaced = ap (are_spaced 0 4294967295) is ∙ gaps_are_spaced c.args.units c.sort_by_key.new.self.items (omega arith) all }

pub returns : goal.returns
returns c = λ u.
    let joined = c.in_ok-sorted.sorted.items in
    let all = all_sorted c.args.units joined c.sort_by_key.new.self.items c.sort_by_key.ensures.permutation (c.in_ok-sorted.ensures.within c.args.units c.requires) in
    let is : c.in_ok-runs.runs.items ≡ gaps 34 c.args.units c.sort_by_key.new.self.items = c.in_ok-runs.ensures ∙ ap (gaps 34 c.args.units) c.deref.ensures.value in
    let sorted = IsNonDecreasingBy-from_sort_by_key (λ (e : Extent). e.first) c.sort_by_key.new.self.items c.in_ok-sort_by_key.ensures.sorted (λ a r q k. search rules) in
    let none : Extent = record { first = 0; units = 0; bytes = 0 } in
    ap (λ (rs : List Run). is_in_run rs u) is
    ∙ free_of_gaps c.args.units joined c.sort_by_key.new.self.items u c.sort_by_key.ensures.permutation (rises_sorted none c.sort_by_key.new.self.items (λ i j le lt. sorted i j none le lt)) all
    ∙ ap (λ (b : Bool). leb 34 u && ltb u c.args.units && not b) (c.in_ok-sorted.ensures.units u)

pub joined-requires : goal.joined-requires
joined-requires c = lies_wider c.args.units 4294967295 c.args.extents.now (omega arith) c.requires
