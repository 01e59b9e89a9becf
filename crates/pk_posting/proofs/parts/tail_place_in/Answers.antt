use Rattle.std.proofs.Common.{◌≡◌, ◌+◌, ◌-◌, ◌%◌, arith, sym}
use Rattle.pk_posting.specs.Posting.{base}
use Rattle.pk_posting.specs.Parts.{bytes_at}
use Rattle.pk_posting.proofs.LentLemmas.{length_bytes_at}
use Rattle.pk_posting.proofs.PartLemmas.{tail_read}
use Rattle.pk_posting.proofs.ShapeLemmas.{ends}
use Rattle.pk_posting.proofs.parts.tail_place_in.Goals as goal

pub returns-then-place-base-clause-spelled : goal.returns-then-place-base-clause-spelled
returns-then-place-base-clause-spelled g c h xs s e =
    let d = ends (bytes_at (g.S.ByteSource.content c.args.source.now) c.args.place) c.args.blocks xs s e in
    absurd (omega (arith, d.head, length_bytes_at _ c.args.place c.requires.lies.inside))

pub returns-then-blocks-eq0-clause-spelled : goal.returns-then-blocks-eq0-clause-spelled
returns-then-blocks-eq0-clause-spelled g c h xs s e =
    sym ((ends (bytes_at (g.S.ByteSource.content c.args.source.now) c.args.place) c.args.blocks xs s e).none (omega arith))

pub returns-then-row-lt16-clause-spelled : goal.returns-then-row-lt16-clause-spelled
returns-then-row-lt16-clause-spelled g c h xs s e =
    let d = ends (bytes_at (g.S.ByteSource.content c.args.source.now) c.args.place) c.args.blocks xs s e in
    absurd (omega (arith, d.row (omega arith), c.in_ok-row.ensures.value h))

pub returns-then-width_at-from-clause-spelled : goal.returns-then-width_at-from-clause-spelled
returns-then-width_at-from-clause-spelled g c h xs s e =
    let d = ends (bytes_at (g.S.ByteSource.content c.args.source.now) c.args.place) c.args.blocks xs s e in
    absurd (omega (arith, d.row (omega arith), d.row_inside (omega arith), c.in_ok-row.ensures.value h, length_bytes_at _ c.args.place c.requires.lies.inside))

pub returns-then-tail-from-clause-spelled : goal.returns-then-tail-from-clause-spelled
returns-then-tail-from-clause-spelled g c h xs s e =
    let d = ends (bytes_at (g.S.ByteSource.content c.args.source.now) c.args.place) c.args.blocks xs s e in
    let place : c.from.result + c.from-2.result + c.from-3.result - 16 ≡ base c.args.blocks + c.in_ok-row.row + (c.args.blocks - 1) % 16 - 16 = omega arith in
    let l = tail_read c.args.place _ _ _ c.args.blocks c.in_ok-row.row c.in_ok-offset.offset _ c.in_ok-width.width xs (c.in_ok-row.ensures.left.same h) (c.in_ok-offset.ensures.left.same h) s e (omega arith)
    (c.in_ok-row.ensures.value h) (c.in_ok-offset.ensures.value h) place (c.in_ok-width.ensures.value h) in
    absurd (omega (arith, d.inside, l, length_bytes_at _ c.args.place c.requires.lies.inside))

pub returns-clause-spelled : goal.returns-clause-spelled
returns-clause-spelled g c h xs s e =
    let place : c.from.result + c.from-2.result + c.from-3.result - 16 ≡ base c.args.blocks + c.in_ok-row.row + (c.args.blocks - 1) % 16 - 16 = omega arith in
    let l = tail_read c.args.place _ _ _ c.args.blocks c.in_ok-row.row c.in_ok-offset.offset _ c.in_ok-width.width xs (c.in_ok-row.ensures.left.same h) (c.in_ok-offset.ensures.left.same h) s e (omega arith)
    (c.in_ok-row.ensures.value h) (c.in_ok-offset.ensures.value h) place (c.in_ok-width.ensures.value h) in
    omega (arith, l)
