use Rattle.std.proofs.Common.{arith, ap, ◌∙◌, ◌+◌, ◌≡◌, slice_index}
use Rattle.pk_posting.specs.Parts.{bytes_at}
use Rattle.pk_posting.proofs.LentLemmas.{byte_lent}
use Rattle.pk_posting.proofs.lent.byte_in.Goals as goal

pub returns-clause-value : goal.returns-clause-value
returns-clause-value g c h =
    let e : c.args.at + 0 ≡ c.args.at = omega arith in
    byte_lent _ c.args.place 1 c.args.at c.in_ok-stretch.stretch.now 0 (record { inside = omega arith; is = c.in_ok-stretch.ensures.value h }) (omega arith)
    ∙ ap (slice_index (bytes_at (g.S.ByteSource.content c.args.source.now) c.args.place)) e
