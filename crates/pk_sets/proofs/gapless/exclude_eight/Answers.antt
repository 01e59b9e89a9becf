-- The run below the head stands, and the head is passed.
use Rattle.std.proofs.Common.{arith, ap, sym, ◌∙◌, ◌≡◌, ◌<◌, ◌+◌, ◌-◌, ◌++◌, length, slice_index, take, drop, append_assoc, append-nil}
use Rattle.std.specs.Simd.Lanes.{chunk}
use Rattle.pk_sets.specs.Sets.{difference}
use Rattle.pk_sets.proofs.ExclusionLemmas.{difference_pass, difference_run, difference_step, difference_to}
use Rattle.pk_sets.proofs.PartLemmas.{part_of_run}
use Rattle.pk_sets.proofs.UnionLemmas.{Heads}
use Rattle.pk_sets.proofs.gapless.exclude_eight.Goals as goal

pub returns-then-head-first-clause-reaches : goal.returns-then-head-first-clause-reaches
returns-then-head-first-clause-reaches c =
    let a = c.args.a.now in
    let b = c.args.b.now in
    let at = c.args.at in
    let out = c.args.out.now in
    let none : at.written ≡ at.written + 0 = omega arith in
    let same : take at.written c.put_eight.new.out ≡ take at.written out =
    ap (λ k. take k c.put_eight.new.out) none ∙ part_of_run at.written 8 0 at.a a c.put_eight.new.out out (omega arith) (omega arith) c.put_eight.ensures ∙ append-nil (take at.written out) in
    let last : at.b + 1 - 1 ≡ at.b = omega arith in
    let here = c.requires.gapless at.a (omega arith) in
    let step = difference_pass a b c.requires.rising_a c.requires.rising_b at.a at.b 1 (omega arith) (λ some. rw last (omega (arith, here, c.if-head-first.true))) in
    record {
      in_a = omega arith;
      in_b = omega arith;
      found = ap (λ l. l ++ difference (drop at.a a) (drop (at.b + 1) b)) same ∙ ap (λ l. take at.written out ++ l) (sym step);
    }

pub returns-then-at-place-clause-reaches : goal.returns-then-at-place-clause-reaches
returns-then-at-place-clause-reaches c =
    let a = c.args.a.now in
    let b = c.args.b.now in
    let at = c.args.at in
    let front = take at.written c.args.out.now in
    let after = difference (drop (at.a + 8) a) (drop at.b b) in
    let last : at.a + 8 - 1 ≡ at.a + 7 = omega arith in
    let here = c.requires.gapless (at.a + 7) (omega arith) in
    let step = difference_run a b c.requires.rising_a c.requires.rising_b at.a at.b 8 (omega arith) (λ some. rw last (omega (arith, here, c.if-at-place.true))) in
    record {
      in_a = omega arith;
      in_b = omega arith;
      found = ap (λ l. l ++ after) c.put_eight.ensures ∙ append_assoc front (chunk at.a 8 a) after ∙ ap (λ l. front ++ l) (sym step);
    }

pub returns-clause-reaches : goal.returns-clause-reaches
returns-clause-reaches c =
    let a = c.args.a.now in
    let b = c.args.b.now in
    let at = c.args.at in
    let out = c.args.out.now in
    let place = slice_index b at.b - slice_index a 0 in
    let run = place - at.a in
    let front = take at.written out in
    let after = difference (drop (place + 1) a) (drop (at.b + 1) b) in
    let inside : place < length a = omega (arith, c.if-at-place.false) in
    let head = c.requires.gapless place inside in
    let heads : Heads a b place at.b = record {
      rising_a = c.requires.rising_a;
      rising_b = c.requires.rising_b;
      left = inside;
      right = c.requires.right;
    } in
    let below : at.a < place → slice_index a (place - 1) < slice_index b at.b =
    λ some. (let before = c.requires.gapless (place - 1) (omega arith) in omega (arith, before, c.if-head-first.false)) in
    let run_is = difference_to a b c.requires.rising_a c.requires.rising_b at.a place at.b (omega (arith, c.if-head-first.false)) (omega arith) below in
    let met : slice_index a place ≡ slice_index b at.b = omega (arith, head, c.if-head-first.false) in
    let head_is = difference_step a b place at.b 1 1 heads (λ h. omega arith) (λ h. omega (arith, met)) (λ h. omega arith) (λ h. omega (arith, met)) in
    let part = part_of_run at.written 8 run at.a a c.put_eight.new.out out (omega (arith, c.if-at-place.false)) (omega arith) c.put_eight.ensures in
    record {
      in_a = omega arith;
      in_b = omega arith;
      found = ap (λ l. l ++ after) part ∙ append_assoc front (chunk at.a run a) after
          ∙ ap (λ l. front ++ (chunk at.a run a ++ l)) (sym head_is) ∙ ap (λ l. front ++ l) (sym run_is);
    }
