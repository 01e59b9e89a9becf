-- The file is no older than what is shown of it.
use Rattle.std.proofs.Common.{refl}
use Rattle.pk_snapshot.proofs.LatestLemmas.{shown_low}
use Rattle.pk_reader.proofs.OrderLemmas.{if_err_both, if_err_then, if_ok_then, still_fresh}
use Rattle.pk_reader.proofs.TryLemmas.{opening_outdated}
use Rattle.pk_reader.proofs.view.OpenView.open.Goals as goal

pub returns-clause-fresh : goal.returns-clause-fresh
returns-clause-fresh g c = λ h.
    let f = g.F.SharedFile in
    if_ok_then _ _ c.open_file.result
    (λ s low. let d = s.store.volume.disk.disk in
    still_fresh _ _ _ _ low refl (shown_low (f.marked d.file) (f.content d.file) d.half d.generation d.len d.shown.extents.items (d.snapshot h) (g.met.F.SharedFile.marked_before d.file h)))
    (c.open_file.ensures.fresh h)

pub returns-clause-refused : goal.returns-clause-refused
returns-clause-refused g c = if_err_both g.F.SharedFile.honest _ _ c.open_file.result c.open_file.ensures.refused c.open_file.ensures.cause

pub returns-clause-outdated : goal.returns-clause-outdated
returns-clause-outdated g c = λ h.
    let f = g.F.SharedFile in
    if_err_then _ _ c.open_file.result
    (λ r is. opening_outdated (f.content c.args.file) (f.content r.file) (f.marked r.file) r.why is)
    (c.open_file.ensures.refused h)
