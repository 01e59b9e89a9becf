-- One look after the other.
use Rattle.pk_manifest.proofs.Evolving.{evolves_then}
use Rattle.pk_snapshot.proofs.SeenLemmas.{first_alone, first_newer, second_alone, second_newer}
use Rattle.pk_snapshot.proofs.OpenLemmas.{both_shut}
use Rattle.pk_snapshot.proofs.looking.choose.Goals as goal

pub returns-in_err-second-clause-evolves : goal.returns-in_err-second-clause-evolves
returns-in_err-second-clause-evolves g c = λ h. evolves_then _ _ _ (c.stamp_behind.ensures.evolves h) (c.stamp_behind-2.ensures.evolves h)

pub returns-in-None-Some-clause-evolves : goal.returns-in-None-Some-clause-evolves
returns-in-None-Some-clause-evolves g c = λ h. evolves_then _ _ _ (c.stamp_behind.ensures.evolves h) (c.stamp_behind-2.ensures.evolves h)

pub returns-in-Some-None-clause-evolves : goal.returns-in-Some-None-clause-evolves
returns-in-Some-None-clause-evolves g c = λ h. evolves_then _ _ _ (c.stamp_behind.ensures.evolves h) (c.stamp_behind-2.ensures.evolves h)

pub returns-then-a-b-clause-evolves : goal.returns-then-a-b-clause-evolves
returns-then-a-b-clause-evolves g c = λ h. evolves_then _ _ _ (c.stamp_behind.ensures.evolves h) (c.stamp_behind-2.ensures.evolves h)

pub returns-else-a-b-clause-evolves : goal.returns-else-a-b-clause-evolves
returns-else-a-b-clause-evolves g c = λ h. evolves_then _ _ _ (c.stamp_behind.ensures.evolves h) (c.stamp_behind-2.ensures.evolves h)

pub returns-in-None-Some-clause-given : goal.returns-in-None-Some-clause-given
returns-in-None-Some-clause-given g c = λ h.
    second_alone _ _ _ (c.stamp_behind.ensures.evolves h) (c.stamp_behind-2.ensures.evolves h) c.in_ok-first.first c.in_ok-second.second c.in-None-Some.generation c.in-None-Some.is-0 c.in-None-Some.is-1 (c.in_ok-first.ensures.shut h) (c.in_ok-second.ensures.given h)

pub returns-in-Some-None-clause-given : goal.returns-in-Some-None-clause-given
returns-in-Some-None-clause-given g c = λ h.
    first_alone _ _ _ (c.stamp_behind.ensures.evolves h) (c.stamp_behind-2.ensures.evolves h) c.in_ok-first.first c.in_ok-second.second c.in-Some-None.generation c.in-Some-None.is-0 c.in-Some-None.is-1 (c.in_ok-first.ensures.given h) (c.in_ok-second.ensures.shut h)

pub returns-then-a-b-clause-given : goal.returns-then-a-b-clause-given
returns-then-a-b-clause-given g c = λ h.
    second_newer _ _ _ (c.stamp_behind.ensures.evolves h) (c.stamp_behind-2.ensures.evolves h) c.in_ok-first.first c.in_ok-second.second c.in-Some-Some.a c.in-Some-Some.b c.in-Some-Some.is-0 c.in-Some-Some.is-1 c.if-a-b.true (c.in_ok-first.ensures.given h) (c.in_ok-second.ensures.given h)

pub returns-else-a-b-clause-given : goal.returns-else-a-b-clause-given
returns-else-a-b-clause-given g c = λ h.
    first_newer _ _ _ (c.stamp_behind.ensures.evolves h) (c.stamp_behind-2.ensures.evolves h) c.in_ok-first.first c.in_ok-second.second c.in-Some-Some.a c.in-Some-Some.b c.in-Some-Some.is-0 c.in-Some-Some.is-1 c.if-a-b.false (c.in_ok-first.ensures.given h) (c.in_ok-second.ensures.given h)

pub returns-in-None-None-clause-none : goal.returns-in-None-None-clause-none
returns-in-None-None-clause-none g c = λ h.
    both_shut _ _ _ (c.stamp_behind.ensures.evolves h) (c.stamp_behind-2.ensures.evolves h) c.in_ok-first.first c.in_ok-second.second
    c.in-None-None.is-0 c.in-None-None.is-1 (c.in_ok-first.ensures.shut h) (c.in_ok-second.ensures.shut h)
