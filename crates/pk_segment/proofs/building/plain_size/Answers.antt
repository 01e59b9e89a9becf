-- The lengths of the parts, by the lemma on the whole.
use Rattle.std.proofs.Common.{arith}
use Rattle.pk_segment.proofs.ReadLemmas.{size_all, size_large}
use Rattle.pk_segment.proofs.building.plain_size.Goals as goal

pub returns-then-documents-gt89478485-clause-size : goal.returns-then-documents-gt89478485-clause-size
returns-then-documents-gt89478485-clause-size c = size_large c.args.documents.now c.if-documents-gt89478485.true

pub loop-d-init : goal.loop-d-init
loop-d-init c = record { sum = size_all c.args.documents.now; small = omega arith }
