-- Four numbers of the second list are passed, four of the first are kept, or each goes by itself.
use Rattle.std.proofs.Common.{arith, refl, ap, sym, ◌∙◌, ◌≤◌, ◌+◌, ◌++◌, length, take, drop, append_assoc}
use Rattle.std.specs.Simd.Lanes.{chunk}
use Rattle.pk_sets.specs.Sets.{difference}
use Rattle.pk_sets.proofs.CursorLemmas.{reaches_then}
use Rattle.pk_sets.proofs.ExclusionLemmas.{difference_run, difference_pass, four_below}
use Rattle.pk_sets.proofs.excluding.exclude_fours.Goals as goal

pub fours-init : goal.fours-init
fours-init c = record {
  reaches = record { in_a = c.requires.left; in_b = c.requires.right; found = refl };
  written = c.requires.written;
}

pub fours-preserved-then-b-at : goal.fours-preserved-then-b-at
fours-preserved-then-b-at c =
    let at = c.fours.at in
    let room : at.b + 4 ≤ length c.args.b.now = omega arith in
    let step = difference_pass c.args.a.now c.args.b.now c.requires.rising_a c.requires.rising_b at.a at.b 4 room
    (four_below c.args.b.now at.b _ c.if-b-at.true) in
    record {
      reaches = reaches_then c.fours.invariant.reaches (record {
        in_a = omega arith;
        in_b = room;
        found = ap (λ l. take at.written c.fours.out ++ l) (sym step);
      });
      written = omega arith;
    }

pub fours-preserved-then-a-at : goal.fours-preserved-then-a-at
fours-preserved-then-a-at c =
    let a = c.args.a.now in
    let b = c.args.b.now in
    let at = c.fours.at in
    let front = take at.written c.fours.out in
    let after = difference (drop (at.a + 4) a) (drop at.b b) in
    let room : at.a + 4 ≤ length a = omega arith in
    let step = difference_run a b c.requires.rising_a c.requires.rising_b at.a at.b 4 room (four_below a at.a _ c.if-a-at.true) in
    record {
      reaches = reaches_then c.fours.invariant.reaches (record {
        in_a = room;
        in_b = omega arith;
        found = ap (λ l. l ++ after) c.put_four.ensures ∙ append_assoc front (chunk at.a 4 a) after ∙ ap (λ l. front ++ l) (sym step);
      });
      written = omega arith;
    }

pub fours-preserved : goal.fours-preserved
fours-preserved c = record {
  reaches = reaches_then c.fours.invariant.reaches c.exclude_four-at.ensures.reaches;
  written = c.exclude_four-at.ensures.written;
}

pub returns-clause-found : goal.returns-clause-found
returns-clause-found c = c.exclude_rest.ensures.found ∙ c.fours.invariant.reaches.found
