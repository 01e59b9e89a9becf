use Rattle.std.proofs.Common.{◌*◌, ◌≡◌, List, ℕ}
use Rattle.pk_posting.specs.Posting.{part}
use Rattle.pk_posting.specs.Parts.{bytes_at}
use Rattle.pk_posting.proofs.LentLemmas.{lent_part}
use Rattle.pk_posting.proofs.packed.unpack_in.Goals as goal

pub returns-clause-value : goal.returns-clause-value
returns-clause-value g c h =
    let L : List ℕ = bytes_at (g.S.ByteSource.content c.args.source.now) c.args.place in
    let e : part c.args.packed.at (16 * c.args.packed.width) L ≡ c.in_ok-stretch.stretch.now =
    lent_part (g.S.ByteSource.content c.args.source.now) c.args.place (16 * c.args.packed.width) c.args.packed.at c.in_ok-stretch.stretch.now (record { inside = c.requires.inside.room; is = c.in_ok-stretch.ensures.value h }) in
    rw e c.unpack_sums.ensures
