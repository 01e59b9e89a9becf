use Rattle.std.proofs.Common.{◌+◌, ◌*◌, ◌/◌, ◌∙◌, arith, refl, sym}
use Rattle.std.proofs.lemmas.Result.{err_from_is_err_and}
use Rattle.pk_posting.proofs.LeastLemmas.{too_short}
use Rattle.pk_posting.proofs.LentLemmas.{length_bytes_at}
use Rattle.pk_posting.proofs.ReadingLemmas.{read_none}
use Rattle.pk_posting.proofs.decoder.ListDecoder.open.Goals as goal

pub returns-in_err-count-clause-spelled : goal.returns-in_err-count-clause-spelled
returns-in_err-count-clause-spelled g c h xs lies s =
    let p = err_from_is_err_and c.from_residual.result c.from_residual.ensures.1 in
    let w = s.whole in
    let size = length_bytes_at (g.S.ByteSource.content c.args.source.now) c.args.place lies in
    rw (p.1, p.2) (c.in_err-count.ensures.fault (omega arith))

pub returns-then-place-least_length-clause-spelled : goal.returns-then-place-least_length-clause-spelled
returns-then-place-least_length-clause-spelled g c h xs lies s =
    let size = length_bytes_at (g.S.ByteSource.content c.args.source.now) c.args.place lies in
    absurd (too_short _ xs c.in_ok-count.count s (sym s.count ∙ sym (c.in_ok-count.ensures.value h)) (omega (arith, size, c.least_length.ensures)))

pub returns-clause-given : goal.returns-clause-given
returns-clause-given g c h =
    let size = length_bytes_at (g.S.ByteSource.content c.args.source.now) c.args.place (omega arith) in
    record {
      count = sym (c.in_ok-count.ensures.value h);
      row = 0;
      read = read_none _ (c.in_ok-count.count / 128) _ (4 + 20 * (c.in_ok-count.count / 128)) 0 refl (omega (arith, size, c.least_length.ensures)) refl;
      widths = λ l. absurd (omega arith);
    }
