-- Within the limit each token goes on to the test on those that are left; past it the test is met.
use Rattle.std.proofs.Common.{arith}
use Rattle.std.proofs.lemmas.Bool.Decides.{nat_tests}
use Rattle.pk_query.proofs.DepthLemmas.{long_here, long_other}
use Rattle.pk_query.proofs.depth.has_long_nots.Goals as goal

pub tokens-preserved-in-Not : goal.tokens-preserved-in-Not
tokens-preserved-in-Not c = grind (arith, nat_tests)

pub tokens-preserved : goal.tokens-preserved
tokens-preserved c = grind (arith, long_other)

pub returns-then-nots-gt-MAX_DEPTH : goal.returns-then-nots-gt-MAX_DEPTH
returns-then-nots-gt-MAX_DEPTH c = grind (arith, long_here)
