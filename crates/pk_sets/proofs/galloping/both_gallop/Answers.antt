-- What is written, and the intersection of what is left.
use Rattle.std.proofs.Common.{arith, refl, sym, ap, ap₂, ◌∙◌, ◌≡◌, ◌+◌, ◌-◌, ◌*◌, ◌/◌, ◌<◌, ◌++◌, ◌∷◌, [], length, slice_index, take, drop, append_assoc, length-append, true, false}
use Rattle.pk_sets.specs.Sets.{intersection}
use Rattle.pk_sets.proofs.PartLemmas.{skip, gallop_step, size_intersection, stored_one}
use Rattle.pk_sets.proofs.galloping.both_gallop.Goals.{then-among, else-among}
use Rattle.pk_sets.proofs.galloping.both_gallop.Goals as goal

pub numbers-init : goal.numbers-init
numbers-init c =
    record {
      within = omega arith;
      room = omega (arith, size_intersection c.args.a.now c.args.b.now c.requires.rising_a c.requires.rising_b);
      found = refl;
    }

pub merge_rest-requires-clause-room : goal.merge_rest-requires-clause-room
merge_rest-requires-clause-room c =
    let e = skip c.args.a.now c.args.b.now c.requires.rising_a c.requires.rising_b c.numbers.i (32 * c.numbers.at) (32 * (length c.args.b.now / 32))
    (omega arith) (omega arith) (λ h. rw c.if-at-count.true at (c.stretch-at.ensures.before (omega arith))) in
    omega (arith, ap length e)

pub returns-then-at-count-clause-found : goal.returns-then-at-count-clause-found
returns-then-at-count-clause-found c =
    let e = skip c.args.a.now c.args.b.now c.requires.rising_a c.requires.rising_b c.numbers.i (32 * c.numbers.at) (32 * (length c.args.b.now / 32))
    (omega arith) (omega arith) (λ h. rw c.if-at-count.true at (c.stretch-at.ensures.before (omega arith))) in
    c.merge_rest.ensures.found ∙ ap (λ l. take c.numbers.n c.numbers.out ++ l) (sym e) ∙ c.numbers.invariant.found

pub bounds-out-n : goal.bounds-out-n
bounds-out-n c =
    let last : 32 * c.stretch-at.result + 32 - 1 ≡ 32 * c.stretch-at.result + 31 = omega arith in
    let x = slice_index c.args.a.now c.numbers.i in
    let after = intersection (drop (c.numbers.i + 1) c.args.a.now) (drop (32 * c.stretch-at.result) c.args.b.now) in
    let e = gallop_step c.args.a.now c.args.b.now c.requires.rising_a c.requires.rising_b c.numbers.i (32 * c.numbers.at) (32 * c.stretch-at.result) 32
    (omega arith) (omega arith) (omega arith) (omega arith) (λ h. c.stretch-at.ensures.before (omega arith))
    (rw last (c.stretch-at.ensures.here (omega arith))) true (sym c.if-among.true ∙ c.among.ensures) in
    let size = ap length e ∙ length-append (x ∷ []) after in
    omega (arith, size)

pub numbers-preserved : goal.numbers-preserved
numbers-preserved c =
    let last : 32 * c.stretch-at.result + 32 - 1 ≡ 32 * c.stretch-at.result + 31 = omega arith in
    let x = slice_index c.args.a.now c.numbers.i in
    let n = c.numbers.n in
    let out = c.numbers.out in
    let after = intersection (drop (c.numbers.i + 1) c.args.a.now) (drop (32 * c.stretch-at.result) c.args.b.now) in
    let step = gallop_step c.args.a.now c.args.b.now c.requires.rising_a c.requires.rising_b c.numbers.i (32 * c.numbers.at) (32 * c.stretch-at.result) 32
    (omega arith) (omega arith) (omega arith) (omega arith) (λ h. c.stretch-at.ensures.before (omega arith))
    (rw last (c.stretch-at.ensures.here (omega arith))) in
    elim c.if-among.branch [
      | then-among w ↦ (let e = step true (sym w.if-among.true ∙ c.among.ensures) in
          let size = ap length e ∙ length-append (x ∷ []) after in
          let room : n < length out = omega (arith, size) in
          record {
            within = omega arith;
            room = omega (arith, size, w.n-is);
            found = ap₂ (λ m o. take m o ++ after) w.n-is w.out-is ∙ ap (λ l. l ++ after) (stored_one n out x room)
                ∙ append_assoc (take n out) (x ∷ []) after ∙ ap (λ l. take n out ++ l) (sym e) ∙ c.numbers.invariant.found;
          })
      | else-among w ↦ (let e = step false (sym w.if-among.false ∙ c.among.ensures) in
          record {
            within = omega arith;
            room = omega (arith, ap length e, w.n-is);
            found = ap₂ (λ m o. take m o ++ after) w.n-is w.out-is ∙ ap (λ l. take n out ++ l) (sym e) ∙ c.numbers.invariant.found;
          })
    ]
