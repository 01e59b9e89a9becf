-- What is answered is read from what is shown, which is no older than what was in force; that the disk
-- failed has its cause, and that there is no reply too.
use Rattle.std.proofs.Common.{ap, arith, subst, ◌≤◌, ◌+◌}
use Rattle.pk_manifest.specs.Evolves.{in_force}
use Rattle.pk_model.specs.Views.{reply_of}
use Rattle.pk_state.specs.Holds.{Holds}
use Rattle.pk_snapshot.proofs.LatestLemmas.{shown_force}
use Rattle.pk_reader.specs.Asking.{request_of}
use Rattle.pk_reader.specs.Held.{held_bytes}
use Rattle.pk_reader.proofs.CauseLemmas.{closed_cause, on_disk, rose_up, without_cause}
use Rattle.pk_reader.proofs.OrderLemmas.{as_fresh}
use Rattle.pk_reader.proofs.ReadLemmas.{reads_as, without_step}
use Rattle.pk_reader.proofs.RefusedLemmas.{open_refused}
use Rattle.pk_reader.proofs.TryLemmas.{without_outdated}
use Rattle.pk_store.specs.declared.refused.OpenFault.TheVariants as opened
use Rattle.pk_reader.specs.Refused.{RefusedOpening}
use Rattle.pk_reader.proofs.turning.turn.Given as given
use Rattle.pk_reader.proofs.turning.turn.Goals as goal
use Rattle.pk_reader.proofs.turning.turn.Goals.{After-reply_without-in-Refused-Disk}

-- why there is no store any more, of one that was asked
closed : (g : given.Over) (c : goal.After-reply_without-in-Refused-Disk g) → g.F.SharedFile.honest → RefusedOpening (held_bytes c.args.held g.F.SharedFile.content (λ s. g.F.SharedFile.content s.store.volume.disk.disk.file))
    (g.F.SharedFile.content c.close-file.result.file) (g.F.SharedFile.marked c.close-file.result.file) c.close-file.result.why
closed g c h =
    let f = g.F.SharedFile in
    let asked = held_bytes c.args.held f.content (λ s. f.content s.store.volume.disk.disk.file) in
    let d = c.ask-reply.new.self.store.volume.disk.disk in
    let is = d.snapshot h in
    let low : in_force asked ≤ d.generation = omega (arith, c.in-Ok.ensures.fresh h, ap in_force (c.ask-reply.ensures.content h), shown_force (f.marked d.file) d.half d.generation d.len d.shown.extents.items is) in
    rw (c.close-file.ensures.file, c.close-file.ensures.why)
    (open_refused asked (f.content d.file) (f.marked d.file) d.half d.generation d.len d.shown.extents.items is low d.outdated (d.gone h) opened.Disk tt)

pub returns-clause-step : goal.returns-clause-step
returns-clause-step g c =
    let f = g.F.SharedFile in
    let d = c.ask-reply.new.self.store.volume.disk.disk in
    record {
      named = c.ask-reply.ensures.named;
      reads = λ h.
          reads_as (f.marked d.file) (f.content d.file) d.half d.generation d.len d.shown.extents.items (d.snapshot h) (g.met.F.SharedFile.marked_before d.file h) _
          (as_fresh _ _ _ (c.in-Ok.ensures.fresh h) (ap in_force (c.ask-reply.ensures.content h)))
          (request_of c.args.question) (reply_of c.ask-reply.result)
          (λ x holds. c.ask-reply.ensures.right h x (subst (λ bytes. Holds bytes x) (c.ask-reply.ensures.content h) holds));
    }

pub returns-in-Err-clause-cause : goal.returns-in-Err-clause-cause
returns-in-Err-clause-cause g c = λ h.
    let f = g.F.SharedFile in
    let file = c.in-Err.field-0.file in
    without_cause (held_bytes c.args.held f.content (λ s. f.content s.store.volume.disk.disk.file)) (f.failed file + f.interrupted file) c.in-Err.field-0.why c.reply_without.result c.reply_without.ensures.told (c.in-Err.ensures.cause h)

pub returns-in-Refused-Disk-clause-cause : goal.returns-in-Refused-Disk-clause-cause
returns-in-Refused-Disk-clause-cause g c = λ h.
    let f = g.F.SharedFile in
    let asked = held_bytes c.args.held f.content (λ s. f.content s.store.volume.disk.disk.file) in
    let d = c.ask-reply.new.self.store.volume.disk.disk in
    let rose = on_disk c.in-Refused-Disk.field-0 _ (rw c.in-Refused-Disk.is at c.in-Refused-Disk.field-0-is) (rw c.in-Refused-Disk.is at c.ask-reply.ensures.cause) in
    let count = f.failed d.file + f.interrupted d.file in
    let closed = closed_cause d.outdated asked count (λ still. omega (arith, rose_up _ _ rose, d.by_calls h still)) in
    without_cause asked (f.failed c.close-file.result.file + f.interrupted c.close-file.result.file) c.close-file.result.why c.reply_without-in-Refused-Disk.result c.reply_without-in-Refused-Disk.ensures.told
    (rw (c.close-file.ensures.file, c.close-file.ensures.why) closed)

pub returns-in-Err-clause-step : goal.returns-in-Err-clause-step
returns-in-Err-clause-step g c =
    let f = g.F.SharedFile in
    let file = c.in-Err.field-0.file in
    without_step f.honest (held_bytes c.args.held f.content (λ s. f.content s.store.volume.disk.disk.file)) (f.content file) (f.marked file) (request_of c.args.question) c.in-Err.field-0.why
    c.reply_without.result c.reply_without.ensures.told c.in-Err.ensures.refused (g.met.F.SharedFile.marked_before file)

pub returns-in-Err-clause-outdated : goal.returns-in-Err-clause-outdated
returns-in-Err-clause-outdated g c = λ h.
    let f = g.F.SharedFile in
    let file = c.in-Err.field-0.file in
    without_outdated (held_bytes c.args.held f.content (λ s. f.content s.store.volume.disk.disk.file)) (f.content file) (f.marked file) c.in-Err.field-0.why
    c.reply_without.result c.reply_without.ensures.told (c.in-Err.ensures.refused h)

pub returns-in-Refused-Disk-clause-step : goal.returns-in-Refused-Disk-clause-step
returns-in-Refused-Disk-clause-step g c =
    let f = g.F.SharedFile in
    let file = c.close-file.result.file in
    without_step f.honest (held_bytes c.args.held f.content (λ s. f.content s.store.volume.disk.disk.file)) (f.content file) (f.marked file) (request_of c.args.question) c.close-file.result.why
    c.reply_without-in-Refused-Disk.result c.reply_without-in-Refused-Disk.ensures.told (closed g (goal.at.returns-in-Refused-Disk-clause-step g c).After-reply_without-in-Refused-Disk) (g.met.F.SharedFile.marked_before file)

pub returns-in-Refused-Disk-clause-outdated : goal.returns-in-Refused-Disk-clause-outdated
returns-in-Refused-Disk-clause-outdated g c = λ h.
    let f = g.F.SharedFile in
    let file = c.close-file.result.file in
    without_outdated (held_bytes c.args.held f.content (λ s. f.content s.store.volume.disk.disk.file)) (f.content file) (f.marked file) c.close-file.result.why
    c.reply_without-in-Refused-Disk.result c.reply_without-in-Refused-Disk.ensures.told (closed g (goal.at.returns-in-Refused-Disk-clause-outdated g c).After-reply_without-in-Refused-Disk h)
