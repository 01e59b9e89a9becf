-- What shows the latest is no older than what is in force; the file had no more bytes before a look.
use Rattle.std.proofs.Common.{◌∙◌, ◌+◌, ◌≤◌, length, ap, sym, subst}
use Rattle.pk_manifest.specs.Evolves.{Evolves, in_force}
use Rattle.pk_snapshot.proofs.LatestLemmas.{shown_force}
use Rattle.pk_reader.proofs.CauseLemmas.{caused_earlier}
use Rattle.pk_reader.proofs.OrderLemmas.{as_fresh, if_err_then}
use Rattle.pk_reader.proofs.RefusedLemmas.{refused_earlier}
use Rattle.pk_reader.proofs.turning.renewed.Goals as goal

pub returns-in-Ok-true-clause-fresh : goal.returns-in-Ok-true-clause-fresh
returns-in-Ok-true-clause-fresh g c = λ h.
    let d = c.args.view.store.volume.disk.disk in
    as_fresh _ d.generation _ (c.in-Ok-true.ensures.latest c.in-Ok-true.field-0-test h)
    (ap in_force (c.is_latest.ensures.content h) ∙ shown_force (g.F.SharedFile.marked d.file) d.half d.generation d.len d.shown.extents.items (d.snapshot h))

pub returns-clause-cause : goal.returns-clause-cause
returns-clause-cause g c = λ h.
    let f = g.F.SharedFile in
    let first = f.content c.args.view.store.volume.disk.disk.file in
    let asked = f.content c.close-file.result.file in
    let long : length first ≤ length asked = subst (λ x. length first ≤ length (f.content x)) (sym c.close-file.ensures.file) (c.is_latest.ensures.goes_on h).size in
    if_err_then _ _ c.open_file.result
    (λ r is. caused_earlier first asked (f.failed r.file + f.interrupted r.file) r.why long is)
    (c.open_file.ensures.cause h)

pub returns-clause-refused : goal.returns-clause-refused
returns-clause-refused g c = λ h.
    let f = g.F.SharedFile in
    let first = f.content c.args.view.store.volume.disk.disk.file in
    let asked = f.content c.close-file.result.file in
    let since : Evolves first asked = subst (λ x. Evolves first (f.content x)) (sym c.close-file.ensures.file) (c.is_latest.ensures.goes_on h) in
    if_err_then _ _ c.open_file.result
    (λ r is. refused_earlier first asked (f.content r.file) (f.marked r.file) since r.why is)
    (c.open_file.ensures.refused h)
