-- Eight numbers, and eight more.
use Rattle.std.proofs.Common.{arith, refl, ◌∙◌}
use Rattle.pk_sets.proofs.CursorLemmas.{reaches_then}
use Rattle.pk_sets.proofs.gapless.exclude_gapless.Goals as goal

pub eights-init : goal.eights-init
eights-init c = record {
  reaches = record { in_a = omega arith; in_b = omega arith; found = refl };
  written = omega arith;
}

pub eights-preserved : goal.eights-preserved
eights-preserved c = record {
  reaches = reaches_then c.eights.invariant.reaches c.exclude_eight-at.ensures.reaches;
  written = omega arith;
}

pub returns-clause-found : goal.returns-clause-found
returns-clause-found c = c.exclude_rest.ensures.found ∙ c.eights.invariant.reaches.found
