use Rattle.std.proofs.Common.{ℕ, ◌<◌, arith, ap, sym, Some}
use Rattle.pk_posting.proofs.ShapeLemmas.{ends, ends_at}
use Rattle.pk_posting.proofs.fields.tail_of.Goals as goal
use Rattle.pk_posting.proofs.fields.tail_of.Goals.{then-row-lt16-via-then-row-lt16, then-row-lt16-via-else-row-lt16+then-width_at-bytes}
use Rattle.pk_posting.proofs.fields.tail_of.Goals.{then-tail-bytes-via-then-tail-bytes, then-tail-bytes-via-else-tail-bytes+then-tail}

pub returns-then-blocks-eq0-clause-spelled : goal.returns-then-blocks-eq0-clause-spelled
returns-then-blocks-eq0-clause-spelled c xs s e = ap (λ (n : ℕ). Some n) (sym ((ends c.args.bytes.now c.args.blocks xs s e).none (omega arith)))

pub returns-then-row-lt16-clause-spelled : goal.returns-then-row-lt16-clause-spelled
returns-then-row-lt16-clause-spelled c xs s e =
    let d = ends c.args.bytes.now c.args.blocks xs s e in
    let some : 0 < c.args.blocks = omega arith in
    let r = d.row some in
    let i = d.row_inside some in
    let row = c.word_at-row.ensures in
    elim c.then-row-lt16.branch [
      | then-row-lt16-via-then-row-lt16 w ↦ absurd (omega (arith, r, row))
      | then-row-lt16-via-else-row-lt16+then-width_at-bytes w ↦ absurd (omega (arith, r, i, row))
    ]

pub returns-then-tail-bytes-clause-spelled : goal.returns-then-tail-bytes-clause-spelled
returns-then-tail-bytes-clause-spelled c xs s e =
    let d = ends c.args.bytes.now c.args.blocks xs s e in
    let some : 0 < c.args.blocks = omega arith in
    let l = ends_at c.args.bytes.now c.args.blocks c.word_at-row.result c.word_at.result xs s e some c.word_at-row.ensures c.word_at.ensures in
    let i = d.inside in
    let m = d.small in
    elim c.then-tail-bytes.branch [
      | then-tail-bytes-via-then-tail-bytes w ↦ absurd (omega (arith, l, i, m))
      | then-tail-bytes-via-else-tail-bytes+then-tail w ↦ absurd (omega (arith, l, i, m))
    ]

pub returns-clause-spelled : goal.returns-clause-spelled
returns-clause-spelled c xs s e =
    let some : 0 < c.args.blocks = omega arith in
    ap (λ (n : ℕ). Some n) (ends_at c.args.bytes.now c.args.blocks c.word_at-row.result c.word_at.result xs s e some c.word_at-row.ensures c.word_at.ensures)
