-- The file goes on as it is asked, and as writers come again.
use Rattle.std.proofs.Common.{◌≡◌, ◌+◌, List, ℕ, arith, subst, sym}
use Rattle.pk_model.specs.Views.{reply_of}
use Rattle.pk_reader.specs.Asking.{request_of}
use Rattle.pk_reader.specs.Causes.{HasCause}
use Rattle.pk_reader.specs.Held.{held_count}
use Rattle.pk_reader.specs.Outdated.{IsOutdated}
use Rattle.pk_reader.specs.Reading.{ReadStep}
use Rattle.pk_reader.proofs.OrderLemmas.{if_none_then, if_some_then}
use Rattle.pk_reader.proofs.ReadLemmas.{later_step}
use Rattle.pk_reader.proofs.TryLemmas.{outdated_later}
use Rattle.pk_reader.proofs.holding.ask_alone.Goals as goal

pub returns-clause-step : goal.returns-clause-step
returns-clause-step g c =
    let f = g.F.SharedFile in
    let asked = f.content c.args.file in
    let request = request_of c.args.question in
    if_some_then _ _ c.turn-reply.result.0
    (λ reply step.
    later_step f.honest asked (f.content c.file_of-file.result) (f.content c.release.new.self) request (reply_of reply) c.release.ensures.evolves
    (subst (λ (l : List ℕ). ReadStep f.honest asked request (reply_of reply) l) (sym c.file_of-file.ensures.bytes) step))
    c.turn-reply.ensures.step

pub returns-clause-cause : goal.returns-clause-cause
returns-clause-cause g c = λ h.
    let f = g.F.SharedFile in
    let asked = f.content c.args.file in
    let now = c.release.new.self in
    let same : f.failed now + f.interrupted now ≡ held_count c.turn-reply.result.1 (λ x. f.failed x + f.interrupted x) (λ s. f.failed s.store.volume.disk.disk.file + f.interrupted s.store.volume.disk.disk.file) =
    omega (arith, c.release.ensures.failed h, c.release.ensures.interrupted h, c.file_of-file.ensures.count) in
    if_some_then _ _ c.turn-reply.result.0
    (λ reply told. subst (λ (n : ℕ). HasCause asked n (reply_of reply)) (sym same) told)
    (c.turn-reply.ensures.cause h)

pub returns-clause-outdated : goal.returns-clause-outdated
returns-clause-outdated g c = λ h.
    let f = g.F.SharedFile in
    let asked = f.content c.args.file in
    if_none_then _ _ c.turn-reply.result.0
    (λ is. outdated_later asked (f.content c.file_of-file.result) (f.content c.release.new.self) (c.release.ensures.evolves h)
    (subst (IsOutdated asked) (sym c.file_of-file.ensures.bytes) is))
    (c.turn-reply.ensures.outdated h)
