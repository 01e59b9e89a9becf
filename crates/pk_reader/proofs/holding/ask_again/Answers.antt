-- What is asked while no one writes, or beside a writer, is no older than what was held.
use Rattle.std.proofs.Common.{◌+◌, subst}
use Rattle.pk_manifest.specs.Evolves.{Evolves}
use Rattle.pk_model.specs.Views.{reply_of}
use Rattle.pk_reader.specs.Asking.{request_of}
use Rattle.pk_reader.specs.Held.{held_bytes, held_count}
use Rattle.pk_reader.proofs.CauseLemmas.{cause_earlier}
use Rattle.pk_reader.proofs.OrderLemmas.{if_none_then, if_some_then}
use Rattle.pk_reader.proofs.ReadLemmas.{older_step}
use Rattle.pk_reader.proofs.holding.ask_again.Given as given
use Rattle.pk_reader.proofs.holding.ask_again.Goals as goal
use Rattle.pk_reader.proofs.holding.ask_again.Goals.{After-hold}

-- the file goes on as writers are asked to stay away
since : (g : given.Over) (c : goal.After-hold g) → g.F.SharedFile.honest → Evolves (held_bytes c.args.held g.F.SharedFile.content (λ s. g.F.SharedFile.content s.store.volume.disk.disk.file)) (g.F.SharedFile.content c.hold.new.self)
since g c h = subst (λ l. Evolves l (g.F.SharedFile.content c.hold.new.self)) c.file_of-file.ensures.bytes (c.hold.ensures.evolves h)

pub returns-in-Some-clause-step : goal.returns-in-Some-clause-step
returns-in-Some-clause-step g c =
    let f = g.F.SharedFile in
    let w = (goal.at.returns-in-Some-clause-step g c).After-hold in
    let below = held_bytes c.args.held f.content (λ s. f.content s.store.volume.disk.disk.file) in
    if_some_then _ _ c.ask_alone-reply.result.0
    (λ reply step. older_step f.honest below (f.content c.hold.new.self) (f.content c.ask_alone-reply.result.1) (request_of c.args.question) (reply_of reply) (λ h. (since g w h).rises) step)
    c.ask_alone-reply.ensures.step

pub returns-in-Some-clause-cause : goal.returns-in-Some-clause-cause
returns-in-Some-clause-cause g c = λ h.
    let f = g.F.SharedFile in
    let w = (goal.at.returns-in-Some-clause-cause g c).After-hold in
    let below = held_bytes c.args.held f.content (λ s. f.content s.store.volume.disk.disk.file) in
    let file = c.ask_alone-reply.result.1 in
    if_some_then _ _ c.ask_alone-reply.result.0
    (λ reply is. cause_earlier below (f.content c.hold.new.self) (f.failed file + f.interrupted file) (reply_of reply) (since g w h).size is)
    (c.ask_alone-reply.ensures.cause h)

pub returns-in-Some-clause-outdated : goal.returns-in-Some-clause-outdated
returns-in-Some-clause-outdated g c = λ h.
    let f = g.F.SharedFile in
    let w = (goal.at.returns-in-Some-clause-outdated g c).After-hold in
    let below = held_bytes c.args.held f.content (λ s. f.content s.store.volume.disk.disk.file) in
    if_none_then _ _ c.ask_alone-reply.result.0 (λ is. (f.content c.hold.new.self, since g w h, c.hold.ensures.asked, is)) (c.ask_alone-reply.ensures.outdated h)

pub returns-in-None-clause-step : goal.returns-in-None-clause-step
returns-in-None-clause-step g c =
    let f = g.F.SharedFile in
    let w = (goal.at.returns-in-None-clause-step g c).After-hold in
    let below = held_bytes c.args.held f.content (λ s. f.content s.store.volume.disk.disk.file) in
    let now = held_bytes c.turn.result.1 f.content (λ s. f.content s.store.volume.disk.disk.file) in
    if_some_then _ _ c.turn.result.0
    (λ reply step. older_step f.honest below (f.content c.hold.new.self) now (request_of c.args.question) (reply_of reply) (λ h. (since g w h).rises) step)
    c.turn.ensures.step

pub returns-in-None-clause-cause : goal.returns-in-None-clause-cause
returns-in-None-clause-cause g c = λ h.
    let f = g.F.SharedFile in
    let w = (goal.at.returns-in-None-clause-cause g c).After-hold in
    let below = held_bytes c.args.held f.content (λ s. f.content s.store.volume.disk.disk.file) in
    let count = held_count c.turn.result.1 (λ x. f.failed x + f.interrupted x) (λ s. f.failed s.store.volume.disk.disk.file + f.interrupted s.store.volume.disk.disk.file) in
    if_some_then _ _ c.turn.result.0
    (λ reply is. cause_earlier below (f.content c.hold.new.self) count (reply_of reply) (since g w h).size is)
    (c.turn.ensures.cause h)

pub returns-in-None-clause-outdated : goal.returns-in-None-clause-outdated
returns-in-None-clause-outdated g c = λ h.
    let f = g.F.SharedFile in
    let w = (goal.at.returns-in-None-clause-outdated g c).After-hold in
    let below = held_bytes c.args.held f.content (λ s. f.content s.store.volume.disk.disk.file) in
    let now = held_bytes c.turn.result.1 f.content (λ s. f.content s.store.volume.disk.disk.file) in
    if_none_then _ _ c.turn.result.0 (λ is. (f.content c.hold.new.self, since g w h, c.hold.ensures.asked, is)) (c.turn.ensures.outdated h)
