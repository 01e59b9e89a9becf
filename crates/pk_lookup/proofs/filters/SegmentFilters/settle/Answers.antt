-- What is put at its place was kept before, or has no filter.
use Rattle.std.proofs.Common.{◌≡◌, ◌≤◌, ◌∙◌, ℕ, List, ap, arith, refl, subst, sym, take}
use Rattle.std.specs.Prelude.{All}
use Rattle.std.proofs.lemmas.List.Elements.{All-take}
use Rattle.std.proofs.lemmas.List.Sums.{sum_by-take-le}
use Rattle.pk_lookup.proofs.FilterLemmas.{adds_none, adds_then}
use Rattle.pk_lookup.specs.declared.filters.SegmentFilter.{SegmentFilter}
use Rattle.pk_lookup.specs.Counted.{IsDecided}
use Rattle.pk_lookup.specs.FilterBytes.{bytes_in, bytes_of}
use Rattle.pk_lookup.proofs.filters.SegmentFilters.settle.Goals as goal

pub loop-place-init : goal.loop-place-init
loop-place-init c = record {
  adds = adds_none c.args.self.now.kept.items;
  limit = λ limit. record { counted = limit.counted; within = limit.within };
  counted = λ counted. record { bytes = counted.bytes; decided = counted.decided };
  bytes = refl;
}

pub loop-place-preserved : goal.loop-place-preserved
loop-place-preserved c = record {
  adds = adds_then _ _ _ c.loop-place.invariant.adds c.settle_at.ensures.adds;
  limit = λ limit. c.settle_at.ensures.limit (c.loop-place.invariant.limit limit);
  counted = λ counted. c.settle_at.ensures.counted (c.loop-place.invariant.counted counted);
  bytes = c.settle_at.ensures.bytes ∙ c.loop-place.invariant.bytes;
}

-- fewer filters take no more bytes
bytes_cut : (kept now : List SegmentFilter) (n : ℕ) → now ≡ take n kept → bytes_in now ≤ bytes_in kept
bytes_cut kept now n is = omega (arith, ap bytes_in is, sum_by-take-le (λ (k : SegmentFilter). bytes_of k.filter) kept n)

pub returns-then-len-opened-clause-counted : goal.returns-then-len-opened-clause-counted
returns-then-len-opened-clause-counted c = λ counted.
    let before = c.loop-place.invariant.counted counted in
    let kept = c.loop-place.self.kept.items in
    record {
      bytes = omega (arith, c.total-self.ensures, bytes_cut kept c.truncate.new.self.items _ c.truncate.ensures.items, before.bytes, c.loop-place.invariant.bytes, c.fits-self);
      decided = subst (All IsDecided) (sym c.truncate.ensures.items) (All-take IsDecided _ kept before.decided);
    }
