-- The part of the range that the extent meets is read.
use Rattle.std.proofs.Common.{ℕ, ◌+◌, ◌-◌, ◌∙◌, ap, length, take, drop}
use Rattle.std.specs.Prelude.{max, min}
use borrow.Rule.Slice.PartMut.{put_mid}
use Rattle.pk_snapshot.specs.Shared.{AreSeen, IsPartFilled}
use Rattle.pk_snapshot.proofs.FillLemmas.{on_ok, part_filled}
use Rattle.pk_snapshot.proofs.filling.fill_part.Goals as goal

pub returns-clause-given : goal.returns-clause-given
returns-clause-given g c = λ h.
    let f = g.F.SharedFile in
    let old = f.content c.args.file.now in
    let new = f.content c.read_whole.new.file in
    let at = c.args.at in
    let from = c.max-from.result in
    let to = c.min-to.result in
    let out = c.args.out.now in
    let sub = c.read_whole.new.out in
    on_ok c.read_whole.result
    (AreSeen old new from (length (take (to - at - (from - at)) (drop (from - at) out))) sub)
    (IsPartFilled old new c.args.extent at out (put_mid (from - at) (to - at - (from - at)) out sub))
    (part_filled old new c.args.extent at from to out sub
    (c.max-from.ensures ∙ ap (λ (s : ℕ). max s at) c.start.ensures)
    (c.min-to.ensures ∙ ap (λ (s : ℕ). min s (at + length out)) c.stop_of.ensures)
    c.if-to-from.false c.read_whole.auto.out)
    (c.read_whole.ensures.given h)
