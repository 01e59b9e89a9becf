-- The reply is that of the last try, or of those with writers kept away.
use Rattle.std.proofs.Common.{◌≡◌, ℕ, arith, subst}
use Rattle.pk_model.specs.Views.{reply_of}
use Rattle.pk_reader.specs.Asking.{request_of}
use Rattle.pk_reader.specs.Held.{held_bytes}
use Rattle.pk_reader.specs.Outdated.{OutdatedTimes, most_openings}
use Rattle.pk_reader.proofs.TryLemmas.{asked_more, asked_once, at_once, once_more}
use Rattle.pk_reader.proofs.asking.ask.Goals as goal

pub tries-preserved : goal.tries-preserved
tries-preserved g c = λ h. once_more _ _ _ _ _ (c.tries.invariant h) (at_once _ _ (rw c.in_default.is at c.turn-reply.ensures.outdated h))

pub returns-in-Some : goal.returns-in-Some
returns-in-Some g c =
    asked_once _ _ _ _ _ _ (request_of c.args.question) (reply_of c.in-Some.reply) _ _ c.tries.invariant
    (rw c.in-Some.is at c.turn-reply.ensures.step) (rw c.in-Some.is at c.turn-reply.ensures.cause)

pub returns : goal.returns
returns g c =
    let f = g.F.SharedFile in
    let all : c.tries.counter ≡ most_openings = omega (arith, c.tries-test.false, c.tries.auto.counter-end) in
    let asked = held_bytes c.args.first f.content (λ s. f.content s.store.volume.disk.disk.file) in
    let mid = held_bytes c.tries.held f.content (λ s. f.content s.store.volume.disk.disk.file) in
    asked_more g.F.HeldFile.asked_at f.honest asked mid _ (request_of c.args.question) (reply_of c.ask_held.result.0) _ _ (λ h. subst (λ (n : ℕ). OutdatedTimes (λ bytes. Unit {0}) n asked mid) all (c.tries.invariant h)) c.ask_held.ensures
