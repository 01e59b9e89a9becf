-- What passed passes still.
use Rattle.std.proofs.Common.{◌≡◌, ◌∙◌, ◌*◌, ◌++◌, List, ℕ, arith, drop, length, subst, sym, take}
use Rattle.std.proofs.lemmas.List.{take-append-le, take_all}
use Rattle.pk_filter.specs.Bits.{HasBits}
use Rattle.pk_filter.specs.Hashed.{block_of}
use Rattle.pk_filter.proofs.FilterLemmas.{has_still}
use Rattle.pk_filter.proofs.filter.WordFilter.add.Goals as goal

pub returns-clause-keeps : goal.returns-clause-keeps
returns-clause-keeps c = λ other passes.
    let lanes = c.args.self.now.lanes in
    let now = c.set_bits.new.lanes in
    let long : length now ≡ lanes.len = omega (arith, c.deref_mut.ensures.len, c.set_bits.auto.lanes) in
    let whole : take lanes.len (now ++ drop (length now) lanes.items) ≡ now = take-append-le lanes.len now (drop (length now) lanes.items) (omega (arith, long)) ∙ take_all lanes.len now (omega (arith, long)) in
    let start = 8 * block_of c.args.self.now.blocks other in
    subst (λ (xs : List ℕ). HasBits xs start other) (sym whole)
    (λ lane lt. has_still start other lane c.set_bits.ensures.grows (subst (λ (xs : List ℕ). HasBits xs start other) (sym c.deref_mut.ensures.value) passes lane lt))
