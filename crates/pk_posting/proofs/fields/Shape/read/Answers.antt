use Rattle.std.proofs.Common.{arith}
use Rattle.std.proofs.lemmas.Result.{err_from_is_err_and}
use Rattle.pk_posting.proofs.LentLemmas.{length_bytes_at}
use Rattle.pk_posting.proofs.fields.Shape.read.Goals as goal

pub returns-in_err-count-clause-spelled : goal.returns-in_err-count-clause-spelled
returns-in_err-count-clause-spelled g c h xs lies s =
    let p = err_from_is_err_and c.from_residual.result c.from_residual.ensures.1 in
    let w = s.whole in
    let size = length_bytes_at (g.S.ByteSource.content c.args.source.now) c.args.place lies in
    rw (p.1, p.2) (c.in_err-count.ensures.fault (omega arith))
