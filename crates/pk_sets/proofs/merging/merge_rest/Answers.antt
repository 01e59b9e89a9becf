-- What is written, and the intersection of what is left.
use Rattle.std.proofs.Common.{arith, sym, ap, ◌∙◌, ℕ, ◌+◌, ◌<◌, ◌++◌, ◌∷◌, [], length, slice_index, take, drop, append_assoc, length-append, append-nil, length-set}
use Rattle.pk_sets.specs.Sets.{intersection}
use Rattle.pk_sets.proofs.PartLemmas.{places_one, one_less, one_more, one_both, none_left, stored_one}
use Rattle.pk_sets.proofs.merging.merge_rest.Goals as goal

pub ends-preserved-then-x-y : goal.ends-preserved-then-x-y
ends-preserved-then-x-y c =
    let p = places_one c.args.a.now c.args.b.now c.ends.i c.ends.j c.requires.rising_a c.requires.rising_b (omega arith) (omega arith) in
    let e = one_less c.args.a.now c.args.b.now c.ends.i c.ends.j p c.if-x-y.true in
    record {
      in_a = omega arith;
      in_b = omega arith;
      room = omega (arith, ap length e);
      found = ap (λ l. take c.ends.n c.ends.out ++ l) (sym e) ∙ c.ends.invariant.found;
    }

pub ends-preserved-then-y-x : goal.ends-preserved-then-y-x
ends-preserved-then-y-x c =
    let p = places_one c.args.a.now c.args.b.now c.ends.i c.ends.j c.requires.rising_a c.requires.rising_b (omega arith) (omega arith) in
    let e = one_more c.args.a.now c.args.b.now c.ends.i c.ends.j p c.if-y-x.true in
    record {
      in_a = omega arith;
      in_b = omega arith;
      room = omega (arith, ap length e);
      found = ap (λ l. take c.ends.n c.ends.out ++ l) (sym e) ∙ c.ends.invariant.found;
    }

pub ends-preserved : goal.ends-preserved
ends-preserved c =
    let p = places_one c.args.a.now c.args.b.now c.ends.i c.ends.j c.requires.rising_a c.requires.rising_b (omega arith) (omega arith) in
    let e = one_both c.args.a.now c.args.b.now c.ends.i c.ends.j p (omega arith) in
    let after = intersection (drop (c.ends.i + 1) c.args.a.now) (drop (c.ends.j + 1) c.args.b.now) in
    let x = slice_index c.args.a.now c.ends.i in
    let size = ap length e ∙ length-append (x ∷ []) after in
    let room : c.ends.n < length c.ends.out = omega (arith, size) in
    record {
      in_a = omega arith;
      in_b = omega arith;
      room = omega (arith, size, length-set {A = ℕ});
      found = ap (λ l. l ++ after) (stored_one c.ends.n c.ends.out x room) ∙ append_assoc (take c.ends.n c.ends.out) (x ∷ []) after
          ∙ ap (λ l. take c.ends.n c.ends.out ++ l) (sym e) ∙ c.ends.invariant.found;
    }

pub returns-else-j-b-clause-found : goal.returns-else-j-b-clause-found
returns-else-j-b-clause-found c =
    let none = none_left (drop c.ends.i c.args.a.now) c.args.b.now c.ends.j (omega arith) in
    sym (append-nil (take c.ends.n c.ends.out)) ∙ ap (λ l. take c.ends.n c.ends.out ++ l) (sym none) ∙ c.ends.invariant.found
