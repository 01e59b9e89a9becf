-- The reply is that of the last try, or each was outdated.
use Rattle.std.proofs.Common.{◌≡◌, ℕ, arith, subst}
use Rattle.pk_model.specs.Views.{reply_of}
use Rattle.pk_reader.specs.Asking.{request_of}
use Rattle.pk_reader.specs.Held.{held_bytes}
use Rattle.pk_reader.specs.Outdated.{OutdatedTimes, most_holds}
use Rattle.pk_reader.proofs.TryLemmas.{asked_never, asked_once, once_more}
use Rattle.pk_reader.proofs.holding.ask_held.Goals as goal

pub tries-preserved : goal.tries-preserved
tries-preserved g c = record {
  tries = λ h. once_more _ _ _ _ _ (c.tries.invariant.tries h) (rw c.in_default.is at c.ask_again-reply.ensures.outdated h);
  waited = λ h. omega (arith, c.tries.invariant.waited h, c.wait.ensures h);
}

pub returns-in-Some : goal.returns-in-Some
returns-in-Some g c =
    asked_once _ _ _ _ _ _ (request_of c.args.question) (reply_of c.in-Some.reply) _ _ c.tries.invariant.tries
    (rw c.in-Some.is at c.ask_again-reply.ensures.step) (rw c.in-Some.is at c.ask_again-reply.ensures.cause)

pub returns : goal.returns
returns g c =
    let f = g.F.SharedFile in
    let all : c.tries.counter ≡ most_holds = omega (arith, c.tries-test.false, c.tries.auto.counter-end) in
    let asked = held_bytes c.args.first f.content (λ s. f.content s.store.volume.disk.disk.file) in
    let now = held_bytes c.tries.held f.content (λ s. f.content s.store.volume.disk.disk.file) in
    asked_never f.honest asked now (request_of c.args.question) _ _
    (λ h. (subst (λ (n : ℕ). OutdatedTimes g.F.HeldFile.asked_at n asked now) all (c.tries.invariant.tries h), λ clock. omega (arith, c.tries.invariant.waited clock, all)))
