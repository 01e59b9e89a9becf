-- What is written, what is left, and which of four are met already.
use Rattle.std.proofs.Common.{arith, refl, ◌∙◌, ◌≡◌, ℕ, ◌<◌, ◌≤◌, ◌+◌, length, slice_index, take, false}
use Rattle.pk_sets.specs.Sets.{has}
use Rattle.pk_sets.proofs.PartLemmas.{at_most}
use Rattle.pk_sets.proofs.HitLemmas.{left_over, no_hit, none_through, past_a, past_b}
use Rattle.pk_sets.proofs.excluding.exclude_foreseen.Goals as goal

pub fours-preserved-then-b-j : goal.fours-preserved-then-b-j
fours-preserved-then-b-j c =
    let a = c.args.a.now in
    let b = c.args.b.now in
    let i = c.fours.i in
    let j = c.fours.j in
    let none : (k : ℕ) → i ≤ k → k < length a → has (take (j + 4) b) (slice_index a k) ≡ false =
    λ k h l. none_through b c.requires.rising_b (j + 4) (j + 3) (slice_index a k) (omega arith) (omega arith)
    (omega (arith, c.if-b-j.true, at_most a c.requires.rising_a i k h l)) in
    record {
      in_a = omega arith;
      in_b = omega arith;
      in_start = omega arith;
      written = omega arith;
      found = c.fours.invariant.found;
      seen = λ t h l. no_hit (take (j + 4) b) (slice_index a (i + t)) t (none (i + t) (omega arith) l);
      ahead = λ k h l. none k (omega arith) l;
      behind = none;
    }

pub fours-preserved-then-a-i : goal.fours-preserved-then-a-i
fours-preserved-then-a-i c =
    past_a c.fours.invariant c.requires.rising_a c.requires.rising_b c.shared.result (omega arith) (omega arith) c.shared.ensures c.exclude_hits-n.new.out c.exclude_hits-n.result c.fours.j
    (omega (arith, c.if-a-i.true)) c.exclude_hits-n.ensures.at_most c.exclude_hits-n.ensures.found c.fours.invariant.in_b c.fours.invariant.ahead

pub fours-preserved : goal.fours-preserved
fours-preserved c =
    past_b c.fours.invariant c.requires.rising_a c.requires.rising_b c.shared.result (omega arith) (omega arith) c.shared.ensures c.fours.out (omega (arith, c.if-a-i.false)) refl

pub returns-clause-found : goal.returns-clause-found
returns-clause-found c = c.exclude_fours.ensures.found ∙ left_over c.fours.invariant
