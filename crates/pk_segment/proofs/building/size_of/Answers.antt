-- The header says how long the segment is, and that is not too long.
use Rattle.std.proofs.Common.{arith}
use Rattle.pk_segment.specs.Spelling.{docs_of}
use Rattle.pk_segment.proofs.PlanLemmas.{header_size}
use Rattle.pk_segment.proofs.building.size_of.Goals as goal

pub size-requires : goal.size-requires
size-requires c =
    let plan = c.in_ok-plan.ensures in
    omega (arith, header_size (docs_of c.args.documents.now) c.in_ok-plan.plan.header plan.header_is, plan.fits)
