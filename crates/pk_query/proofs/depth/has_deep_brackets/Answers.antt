-- Within the limit each token goes on to the test on those that are left; past it the test is met.
use Rattle.std.proofs.Common.{arith}
use Rattle.std.proofs.lemmas.Bool.Decides.{nat_tests}
use Rattle.pk_query.proofs.DepthLemmas.{deep_here, deep_other}
use Rattle.pk_query.proofs.depth.has_deep_brackets.Goals as goal

pub tokens-preserved-in-Open : goal.tokens-preserved-in-Open
tokens-preserved-in-Open c = grind (arith, nat_tests)

pub tokens-preserved-in-Close : goal.tokens-preserved-in-Close
tokens-preserved-in-Close c = grind (arith, nat_tests)

pub tokens-preserved : goal.tokens-preserved
tokens-preserved c = grind (arith, deep_other)

pub returns-then-opens-closes : goal.returns-then-opens-closes
returns-then-opens-closes c = grind (arith, deep_here)
