-- Those that meet the range cover of it what all do.
use Rattle.std.proofs.Common.{◌+◌, ap, length}
use Rattle.pk_snapshot.specs.Shared.{IsFilled}
use Rattle.pk_snapshot.proofs.FillLemmas.{on_ok}
use Rattle.pk_snapshot.proofs.OrderLemmas.{filled_met}
use Rattle.pk_snapshot.proofs.shown.Shown.fill.Goals as goal

pub returns-clause-given : goal.returns-clause-given
returns-clause-given g c = λ h.
    let f = g.F.SharedFile in
    let old = f.content c.args.file.now in
    let new = f.content c.fill.new.file in
    let all = c.args.self.now.extents.items in
    let met = c.meeting-met.result.now in
    let out = c.fill.new.out in
    on_ok c.fill.result (IsFilled old new met c.args.at out) (IsFilled old new all c.args.at out)
    (filled_met old new all met c.args.at (c.args.at + length c.args.out.now) out (ap (λ n. c.args.at + n) c.fill.auto.out) c.meeting-met.ensures)
    (c.fill.ensures.given h)
