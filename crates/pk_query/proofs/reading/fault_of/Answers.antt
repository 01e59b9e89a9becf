-- What the checks find is what the grammar says, within the limits.
use Rattle.std.proofs.Common.{◌≡◌, true, false, arith}
use Rattle.pk_query.specs.Depth.{IsWithinLimits}
use Rattle.pk_query.proofs.Answer.{found}
use Rattle.pk_query.proofs.reading.fault_of.Goals as goal

pub first_fault-requires : goal.first_fault-requires
first_fault-requires c = record { short = omega arith; flat = λ deep. let h : false ≡ true = c.if-is_too_deep.ensures.1 deep in cc }

pub returns : goal.returns
returns c =
    let within : IsWithinLimits c.args.text.now = record { short = omega arith; flat = λ deep. let h : false ≡ true = c.if-is_too_deep.ensures.1 deep in cc } in
    found c.args.text.now c.first_fault.result c.utf8.text within c.first_fault.ensures
