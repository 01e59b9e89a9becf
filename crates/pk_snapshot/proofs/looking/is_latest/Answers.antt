-- Neither body said a greater generation, or the other gate was shut and the body seen behind its own.
use Rattle.std.proofs.Common.{◌≤◌, ◌<◌, arith, rules, subst}
use Rattle.std.proofs.lemmas.Bool.Decides.{nat_tests}
use Rattle.pk_manifest.specs.declared.half.Half.{Half}
use Rattle.pk_manifest.specs.Bodies.{other}
use Rattle.pk_manifest.proofs.Evolving.{evolves_then}
use Rattle.pk_snapshot.specs.Seen.{SawStamp}
use Rattle.pk_snapshot.specs.Shared.{Confirms, SawShut}
use Rattle.pk_snapshot.proofs.AnotherLemmas.{another_greater, another_other, another_stamp}
use Rattle.pk_snapshot.proofs.CallLemmas.{fails_then}
use Rattle.pk_snapshot.proofs.LatestLemmas.{latest_alone, latest_by_stamps}
use Rattle.pk_snapshot.proofs.SeenLemmas.{if_none, if_some}
use Rattle.pk_snapshot.proofs.looking.is_latest.Goals as goal

pub returns-in_err-stamp_of-clause-evolves : goal.returns-in_err-stamp_of-clause-evolves
returns-in_err-stamp_of-clause-evolves g c = λ h. evolves_then _ _ _ (c.stamp_of.ensures.evolves h) (c.stamp_of-then-beside-generation.ensures.evolves h)

pub returns-then-beside-generation-clause-latest : goal.returns-then-beside-generation-clause-latest
returns-then-beside-generation-clause-latest g c = λ h low yes.
    let f = g.F.SharedFile in
    let old = f.content c.args.file.now in
    let mid = f.content c.stamp_of.new.file in
    let beside = c.in_ok-beside.beside in
    let own = c.in_ok-stamp_of.field-0 in
    let seen : SawStamp old mid (other c.args.half) beside = subst (λ (half : Half). SawStamp old mid half beside) c.other.ensures (c.in_ok-beside.ensures.given h) in
    let most : beside ≤ c.args.generation = search rules in
    let most_own : own ≤ c.args.generation = grind (arith, nat_tests, yes) in
    latest_by_stamps old mid (f.content c.stamp_of-then-beside-generation.new.file) c.args.half c.args.generation beside own
    low (c.stamp_of.ensures.evolves h) most seen most_own (c.in_ok-stamp_of.ensures.given h)

pub returns-then-beside-generation-clause-evolves : goal.returns-then-beside-generation-clause-evolves
returns-then-beside-generation-clause-evolves g c = λ h. evolves_then _ _ _ (c.stamp_of.ensures.evolves h) (c.stamp_of-then-beside-generation.ensures.evolves h)

pub returns-in_err-stamp_behind-clause-evolves : goal.returns-in_err-stamp_behind-clause-evolves
returns-in_err-stamp_behind-clause-evolves g c = λ h. evolves_then _ _ _ (c.stamp_of.ensures.evolves h) (c.stamp_behind.ensures.evolves h)

pub returns-in-None-clause-latest : goal.returns-in-None-clause-latest
returns-in-None-clause-latest g c = λ h low.
    let f = g.F.SharedFile in
    let mid = f.content c.stamp_of.new.file in
    let looked = f.content c.stamp_behind.new.file in
    let shut : SawShut mid looked (other c.args.half) = subst (λ (half : Half). SawShut mid looked half) c.other-2.ensures
    (if_none (SawShut mid looked c.other-2.result) c.in_ok-stamp_behind.field-0 c.in-None.is (c.in_ok-stamp_behind.ensures.shut h)) in
    latest_alone (f.content c.args.file.now) mid looked (f.content c.is_still.new.file) c.args.half c.args.generation low (c.stamp_of.ensures.evolves h) shut c.is_still.result (c.is_still.ensures.given h)

pub returns-in-None-clause-evolves : goal.returns-in-None-clause-evolves
returns-in-None-clause-evolves g c = λ h.
    evolves_then _ _ _ (c.stamp_of.ensures.evolves h) (evolves_then _ _ _ (c.stamp_behind.ensures.evolves h) (c.is_still.ensures.evolves h))

pub returns-in-Some-clause-evolves : goal.returns-in-Some-clause-evolves
returns-in-Some-clause-evolves g c = λ h. evolves_then _ _ _ (c.stamp_of.ensures.evolves h) (c.stamp_behind.ensures.evolves h)

pub returns-in-None-clause-fails : goal.returns-in-None-clause-fails
returns-in-None-clause-fails g c = λ h.
    let f = g.F.SharedFile in
    fails_then f.failed f.interrupted 0 _ _ _ _ (c.in_ok-beside.ensures.fails h) (fails_then f.failed f.interrupted 0 _ _ _ _ (c.in_ok-stamp_behind.ensures.fails h) (c.is_still.ensures.fails h))

pub returns-then-beside-generation-clause-denied : goal.returns-then-beside-generation-clause-denied
returns-then-beside-generation-clause-denied g c = λ h no.
    let f = g.F.SharedFile in
    another_stamp (f.content c.args.file.now) (f.content c.stamp_of.new.file) (f.content c.stamp_of-then-beside-generation.new.file) c.args.half c.args.generation c.in_ok-stamp_of.field-0
    (c.stamp_of.ensures.evolves h) (c.in_ok-stamp_of.ensures.given h) no

pub returns-in-None-clause-denied : goal.returns-in-None-clause-denied
returns-in-None-clause-denied g c = λ h.
    let f = g.F.SharedFile in
    another_other (f.content c.args.file.now) (f.content c.stamp_behind.new.file) (f.content c.is_still.new.file) c.args.half c.args.generation
    (evolves_then _ _ _ (c.stamp_of.ensures.evolves h) (c.stamp_behind.ensures.evolves h)) c.is_still.result (c.is_still.ensures.other h)

pub returns-in-Some-clause-denied : goal.returns-in-Some-clause-denied
returns-in-Some-clause-denied g c = λ h no.
    let f = g.F.SharedFile in
    let old = f.content c.args.file.now in
    let mid = f.content c.stamp_of.new.file in
    let new = f.content c.stamp_behind.new.file in
    let beside = c.in_ok-beside.beside in
    let more : c.args.generation < beside = search rules in
    another_greater old mid new c.args.half c.args.generation beside c.in-Some.field-0 more
    (subst (λ (half : Half). SawStamp old mid half beside) c.other.ensures (c.in_ok-beside.ensures.given h))
    (subst (λ (half : Half). Confirms mid new half c.in-Some.field-0) c.other-2.ensures
    (if_some (Confirms mid new c.other-2.result) c.in_ok-stamp_behind.field-0 c.in-Some.field-0 c.in-Some.is (c.in_ok-stamp_behind.ensures.given h)))
