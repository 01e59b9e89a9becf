-- Moved filters take as many bytes as before.
use Rattle.std.proofs.Common.{◌∙◌, IsPermutation, arith, sym}
use Rattle.std.proofs.lemmas.List.Sorted.{All-permutation, IsPermutation-swap, sum_by-IsPermutation}
use Rattle.pk_lookup.specs.declared.filters.SegmentFilter.{SegmentFilter}
use Rattle.pk_lookup.specs.Counted.{IsDecided}
use Rattle.pk_lookup.specs.FilterBytes.{bytes_of}
use Rattle.pk_lookup.proofs.filters.SegmentFilters.settle_at.Goals as goal

pub returns-clause-limit : goal.returns-clause-limit
returns-clause-limit c = λ limit.
    let before = c.place_from.ensures.limit limit in
    let within = c.in-Some.ensures.within in
    let moved : IsPermutation c.place_from.new.self.kept.items c.swap.new.self.items = IsPermutation-swap _ _ c.args.place c.in-Some.from (omega (arith, within)) (omega (arith, within)) c.swap.ensures.items in
    record {
      counted = omega (arith, sum_by-IsPermutation (λ (k : SegmentFilter). bytes_of k.filter) _ _ moved, before.counted);
      within = before.within;
    }

pub returns-clause-counted : goal.returns-clause-counted
returns-clause-counted c = λ counted.
    let before = c.place_from.ensures.counted counted in
    let within = c.in-Some.ensures.within in
    let moved : IsPermutation c.place_from.new.self.kept.items c.swap.new.self.items = IsPermutation-swap _ _ c.args.place c.in-Some.from (omega (arith, within)) (omega (arith, within)) c.swap.ensures.items in
    record {
      bytes = before.bytes ∙ sym (sum_by-IsPermutation (λ (k : SegmentFilter). bytes_of k.filter) _ _ moved);
      decided = All-permutation IsDecided _ _ moved before.decided;
    }
