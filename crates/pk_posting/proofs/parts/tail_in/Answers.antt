use Rattle.std.proofs.Common.{◌%◌, ◌*◌, drop, arith}
use Rattle.std.proofs.lemmas.Result.{err_from_is_err_and}
use Rattle.pk_posting.specs.Parts.{bytes_at}
use Rattle.pk_posting.specs.Tails.{IsTail}
use Rattle.pk_posting.proofs.PartLemmas.{tail_is}
use Rattle.pk_posting.proofs.WholeLemmas.{climbs_rise}
use Rattle.pk_posting.proofs.parts.tail_in.Goals as goal

pub returns-in_err-read_tail_in-clause-spelled : goal.returns-in_err-read_tail_in-clause-spelled
returns-in_err-read_tail_in-clause-spelled g c h ys l =
    let t = tail_is (bytes_at (g.S.ByteSource.content c.args.source.now) c.args.place) c.args.shape ys c.in_ok-before.before l c.in_ok-before.ensures.none (c.in_ok-before.ensures.some h) in
    let p = err_from_is_err_and c.from_residual-in_err-read_tail_in.result c.from_residual-in_err-read_tail_in.ensures.1 in
    let own : IsTail (bytes_at (g.S.ByteSource.content c.number_before.new.source) c.args.place) c.args.shape.tail c.in_ok-before.before (c.args.shape.count % 128) (drop (128 * c.args.shape.blocks) ys) =
    rw (c.in_ok-before.ensures.left.same h) t.is in
    rw (p.1, p.2) (c.in_err-read_tail_in.ensures.spelled h _ own)

pub returns-clause-spelled : goal.returns-clause-spelled
returns-clause-spelled g c h ys l =
    let t = tail_is (bytes_at (g.S.ByteSource.content c.args.source.now) c.args.place) c.args.shape ys c.in_ok-before.before l c.in_ok-before.ensures.none (c.in_ok-before.ensures.some h) in
    let own : IsTail (bytes_at (g.S.ByteSource.content c.number_before.new.source) c.args.place) c.args.shape.tail c.in_ok-before.before (c.args.shape.count % 128) (drop (128 * c.args.shape.blocks) ys) =
    rw (c.in_ok-before.ensures.left.same h) t.is in
    c.in_ok-read_tail_in.ensures.spelled h _ own

pub returns-clause-rises : goal.returns-clause-rises
returns-clause-rises g c =
    climbs_rise c.in_ok-before.before (c.args.shape.count % 128) c.read_tail_in.new.xs (omega arith) (search c.in_ok-read_tail_in.ensures.climbs)
