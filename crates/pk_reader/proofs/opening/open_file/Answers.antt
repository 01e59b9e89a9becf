-- What is shown is what was in force, or newer, and so is the file then; a refusal has its cause.
use Rattle.std.proofs.Common.{◌≡◌, ◌<◌, ◌≤◌, ◌+◌, ◌∙◌, None, List, ℕ, ap, sym, subst, arith}
use Rattle.std.specs.Prelude.{cond}
use Rattle.pk_disk.specs.Disk.{IsImage}
use Rattle.pk_manifest.specs.Evolves.{in_force}
use Rattle.pk_snapshot.specs.Shown.{shown_bytes}
use Rattle.pk_snapshot.specs.Writes.{failed_by, open_at}
use Rattle.pk_snapshot.specs.declared.fault.SnapshotFault.TheVariants as shown
use Rattle.pk_snapshot.proofs.LatestLemmas.{shown_force, shown_low}
use Rattle.pk_snapshot.proofs.ShownLemmas.{length_shown}
use Rattle.pk_snapshot.proofs.WriteLemmas.{none_refused}
use Rattle.pk_reader.proofs.CauseLemmas.{is_caused, read_failed, shown_called, store_disk}
use Rattle.pk_reader.proofs.OrderLemmas.{as_fresh, still_fresh}
use Rattle.pk_reader.proofs.RefusedLemmas.{open_refused, shown_refused}
use Rattle.pk_store.specs.Opening.{RefusesOpening}
use Rattle.pk_reader.proofs.opening.open_file.Goals as goal

pub returns-in-Ok-open-clause-fresh : goal.returns-in-Ok-open-clause-fresh
returns-in-Ok-open-clause-fresh g c = λ h.
    let f = g.F.SharedFile in
    let d = c.in-Ok.disk in
    let same = c.in-Ok-open.ensures.shown h ∙ ap (λ x. shown_bytes x.len x.shown.extents.items (f.marked x.file)) c.new-disk.ensures.disk in
    as_fresh _ d.generation _ (c.in-Ok.ensures.fresh h) (ap in_force same ∙ shown_force (f.marked d.file) d.half d.generation d.len d.shown.extents.items (d.snapshot h))

pub returns-in-Err-open-clause-later : goal.returns-in-Err-open-clause-later
returns-in-Err-open-clause-later g c = λ h.
    let f = g.F.SharedFile in
    let d = c.in-Ok.disk in
    let left = c.in-Err-open.refused.disk.disk in
    let same = c.in-Err-open.ensures.refused h ∙ ap (λ x. shown_bytes x.len x.shown.extents.items (f.marked x.file)) c.new-disk.ensures.disk in
    let low = shown_low (f.marked left.file) (f.content left.file) left.half left.generation left.len left.shown.extents.items (left.snapshot h) (g.met.F.SharedFile.marked_before left.file h) in
    subst (λ x. in_force (f.content c.args.file) ≤ in_force (f.content x)) (sym c.hand_back.ensures.file)
    (still_fresh _ _ _ _ (c.in-Ok.ensures.fresh h) (ap in_force same ∙ shown_force (f.marked d.file) d.half d.generation d.len d.shown.extents.items (d.snapshot h)) low)

pub returns-in-Err-clause-refused : goal.returns-in-Err-clause-refused
returns-in-Err-clause-refused g c = λ h.
    let f = g.F.SharedFile in
    let r = c.in-Err.refused in
    shown_refused (f.content c.args.file) (f.content r.file) (f.marked r.file) r.why (c.in-Err.ensures.refused h) (c.in-Err.ensures.changed h)

pub returns-in-Err-open-clause-refused : goal.returns-in-Err-open-clause-refused
returns-in-Err-open-clause-refused g c = λ h.
    let f = g.F.SharedFile in
    let left = c.in-Err-open.refused.disk.disk in
    let why = c.in-Err-open.refused.why in
    let kept = subst (λ (l : List ℕ). RefusesOpening l why) (sym (c.in-Err-open.ensures.refused h)) (c.in-Err-open.ensures.why h) in
    let d = c.in-Ok.disk in
    let same = c.in-Err-open.ensures.refused h ∙ ap (λ x. shown_bytes x.len x.shown.extents.items (f.marked x.file)) c.new-disk.ensures.disk in
    let low : in_force (f.content c.args.file) ≤ left.generation =
    omega (arith, c.in-Ok.ensures.fresh h, ap in_force same, shown_force (f.marked d.file) d.half d.generation d.len d.shown.extents.items (d.snapshot h), shown_force (f.marked left.file) left.half left.generation left.len left.shown.extents.items (left.snapshot h)) in
    let said = open_refused (f.content c.args.file) (f.content left.file) (f.marked left.file) left.half left.generation left.len left.shown.extents.items (left.snapshot h) low left.outdated (left.gone h) why kept in
    rw (c.hand_back.ensures.file, c.hand_back.ensures.why, c.fault_of.ensures) said

pub returns-in-Err-clause-cause : goal.returns-in-Err-clause-cause
returns-in-Err-clause-cause g c = λ h.
    let f = g.F.SharedFile in
    let r = c.in-Err.refused in
    is_caused (f.content c.args.file) (f.content r.file) (f.marked r.file) (f.failed r.file + f.interrupted r.file) r.why (returns-in-Err-clause-refused g c h)
    (shown_called f.failed f.interrupted c.args.file r.file r.why (c.in-Err.ensures.fails h))

pub returns-in-Err-open-clause-cause : goal.returns-in-Err-open-clause-cause
returns-in-Err-open-clause-cause g c = λ h.
    let f = g.F.SharedFile in
    let d = c.new-disk.result.disk in
    let left = c.in-Err-open.refused.disk.disk in
    let back = c.hand_back.result in
    let bytes = shown_bytes d.len d.shown.extents.items (f.marked d.file) in
    let closed : d.refused_at ≡ None = ap (λ x. x.refused_at) c.new-disk.ensures.disk ∙ c.in-Ok.ensures.writes in
    -- no image is new, so nothing was written
    let none : left.refused_at ≡ None =
    none_refused bytes (shown_bytes left.len left.shown.extents.items (f.marked left.file)) left.refused_at (c.in-Err-open.ensures.refused h)
    (λ p is. omega (arith, left.refused p is, length_shown left.len left.shown.extents.items (f.marked left.file)))
    (λ image is. subst (λ at. IsImage bytes (open_at at) image) closed ((c.in-Err-open.ensures.none_new h).each 0 image (omega arith) is)) in
    is_caused (f.content c.args.file) (f.content back.file) (f.marked back.file) (f.failed back.file + f.interrupted back.file) back.why (returns-in-Err-open-clause-refused g c h)
    (λ is.
    let told = store_disk left.outdated c.in-Err-open.refused.why (sym (c.hand_back.ensures.why ∙ ap (cond left.outdated shown.Changed) c.fault_of.ensures) ∙ is) in
    let failed = read_failed _ c.new-disk.result c.in-Err-open.refused.disk (ap failed_by none) (c.in-Err-open.ensures.cause told.1) in
    subst (λ x. 0 < f.failed x + f.interrupted x) (sym c.hand_back.ensures.file) (omega (arith, failed, left.by_calls h told.0)))
