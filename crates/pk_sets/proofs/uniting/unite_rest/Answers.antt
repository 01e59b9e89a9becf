-- The union of what is left stays behind what is written.
use Rattle.std.proofs.Common.{arith, refl, ap, ◌∙◌, ◌≤◌, ◌⊎◌, ◌++◌, inl, inr, length, take, drop, append_assoc}
use Rattle.pk_sets.proofs.CursorLemmas.{reaches_then}
use Rattle.pk_sets.proofs.PartLemmas.{rising_drop}
use Rattle.pk_sets.proofs.UnionLemmas.{union_rest}
use Rattle.pk_sets.proofs.uniting.unite_rest.Goals.{then-heads-test+else-at-b, else-heads-test}
use Rattle.pk_sets.proofs.uniting.unite_rest.Goals as goal

pub heads-init : goal.heads-init
heads-init c = record {
  reaches = record { in_a = c.requires.left; in_b = c.requires.right; found = refl };
  written = c.requires.written;
}

pub heads-preserved : goal.heads-preserved
heads-preserved c = record {
  reaches = reaches_then c.heads.invariant.reaches c.unite_one-at.ensures.reaches;
  written = omega arith;
}

pub returns-clause-found : goal.returns-clause-found
returns-clause-found c =
    let a = c.args.a.now in
    let b = c.args.b.now in
    let at = c.heads.at in
    let front = take at.written c.heads.out in
    let end : (length a ≤ at.a) ⊎ (length b ≤ at.b) = elim c.heads-test.branch [
      | then-heads-test+else-at-b w ↦ inr w.if-at-b.false
      | else-heads-test w ↦ inl w.heads-test.false
    ] in
    c.put_rest.ensures.found
    ∙ ap (λ l. l ++ drop at.b b) c.put_rest-n.ensures.found
    ∙ append_assoc front (drop at.a a) (drop at.b b)
    ∙ ap (λ l. front ++ l) (union_rest a b at.a at.b (rising_drop a c.requires.rising_a at.a) end)
    ∙ c.heads.invariant.reaches.found
