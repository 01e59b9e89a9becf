-- The body that was read says the units of the store.
use Rattle.std.proofs.Common.{IfErr, arith, subst, sym}
use Rattle.pk_manifest.specs.Spelling.{view}
use Rattle.pk_grow.specs.Growth.{IsSoundGrowFault}
use Rattle.pk_grow.proofs.GrowthLemmas.{of_err}
use Rattle.pk_grow.proofs.StoreLemmas.{units_of_sound}
use Rattle.pk_grow.proofs.store.body_due.Goals as goal

pub returns-in_err-found-clause-fault : goal.returns-in_err-found-clause-fault
returns-in_err-found-clause-fault g c = λ honest col holds.
    of_err c.from_residual.result _ (λ r. IfErr r IsSoundGrowFault) c.from_residual.ensures.1
    (λ e is. subst IsSoundGrowFault (sym is) (c.in_err-found.ensures.fault honest col holds))

pub returns-then-units-found-clause-answer : goal.returns-then-units-found-clause-answer
returns-then-units-found-clause-answer g c = λ honest.
    let has = c.in_ok-found.ensures.answer honest in
    (record { half = c.in_ok-found.found.1; body = view c.in_ok-found.found.0; is = has }, omega (arith, units_of_sound _ _ has.sound, c.if-units-found.true))

pub returns-then-units-found-2-clause-answer : goal.returns-then-units-found-2-clause-answer
returns-then-units-found-2-clause-answer g c = λ honest.
    let has = c.in_ok-found.ensures.answer honest in
    (record { half = c.in_ok-found.found.1; body = view c.in_ok-found.found.0; is = has }, omega (arith, units_of_sound _ _ has.sound, c.if-units-found-2.true))

pub returns-clause-answer : goal.returns-clause-answer
returns-clause-answer g c = λ honest.
    let has = c.in_ok-found.ensures.answer honest in
    (has, omega (arith, units_of_sound _ _ has.sound, c.if-units-found.false, c.if-units-found-2.false))
