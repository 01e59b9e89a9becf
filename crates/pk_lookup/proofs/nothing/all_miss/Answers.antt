-- All of them find nothing.
use Rattle.std.proofs.Common.{arith}
use Rattle.pk_plan.specs.Plans.{operation_of}
use Rattle.pk_lookup.proofs.NothingLemmas.{all_nothing}
use Rattle.pk_lookup.proofs.nothing.all_miss.Goals as goal

pub returns : goal.returns
returns c = λ words docs are yes. all_nothing (operation_of words) docs c.args.parts.now.items (λ i part lt at. c.loop-i.invariant words docs are i part (omega (arith, lt)) at)
