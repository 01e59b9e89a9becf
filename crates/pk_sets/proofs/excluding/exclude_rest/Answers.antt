-- The difference of what is left stays behind what is written.
use Rattle.std.proofs.Common.{arith, refl, ap, ◌∙◌, ◌≤◌, ◌⊎◌, ◌++◌, inl, inr, length, take}
use Rattle.pk_sets.proofs.CursorLemmas.{reaches_then}
use Rattle.pk_sets.proofs.ExclusionLemmas.{difference_rest}
use Rattle.pk_sets.proofs.excluding.exclude_rest.Goals.{then-heads-test+else-at-b, else-heads-test}
use Rattle.pk_sets.proofs.excluding.exclude_rest.Goals as goal

pub heads-init : goal.heads-init
heads-init c = record {
  reaches = record { in_a = c.requires.left; in_b = c.requires.right; found = refl };
  written = c.requires.written;
}

pub heads-preserved : goal.heads-preserved
heads-preserved c = record {
  reaches = reaches_then c.heads.invariant.reaches c.exclude_one-at.ensures.reaches;
  written = omega arith;
}

pub returns-clause-found : goal.returns-clause-found
returns-clause-found c =
    let a = c.args.a.now in
    let b = c.args.b.now in
    let at = c.heads.at in
    let end : (length a ≤ at.a) ⊎ (length b ≤ at.b) = elim c.heads-test.branch [
      | then-heads-test+else-at-b w ↦ inr w.if-at-b.false
      | else-heads-test w ↦ inl w.heads-test.false
    ] in
    c.put_rest.ensures.found
    ∙ ap (λ l. take at.written c.heads.out ++ l) (difference_rest a b at.a at.b end)
    ∙ c.heads.invariant.reaches.found
