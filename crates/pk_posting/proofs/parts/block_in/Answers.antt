use Rattle.std.proofs.Common.{◌≡◌, ℕ, List, arith}
use Rattle.pk_posting.specs.Posting.{Rises, block}
use Rattle.pk_posting.specs.Parts.{bytes_at}
use Rattle.pk_posting.proofs.LentLemmas.{length_bytes_at}
use Rattle.pk_posting.proofs.PartLemmas.{block_is, right_block}
use Rattle.pk_posting.proofs.ReadingLemmas.{false_is}
use Rattle.pk_posting.proofs.parts.block_in.Goals as goal

pub returns-then-not-ascending-clause-spelled : goal.returns-then-not-ascending-clause-spelled
returns-then-not-ascending-clause-spelled g c h ys l one =
    let L : List ℕ = bytes_at (g.S.ByteSource.content c.args.source.now) c.args.place in
    let size = length_bytes_at (g.S.ByteSource.content c.args.source.now) c.args.place c.requires.lies.inside in
    let f = c.in_ok-packed.ensures.spelled h ys l in
    let is : c.unpack_in.new.xs ≡ block c.args.k ys = block_is L c.args.shape ys c.args.k c.in_ok-packed.packed.at c.in_ok-packed.packed.width c.in_ok-packed.packed.seed c.unpack_in.new.xs l one (omega (arith, size)) f.seed_is f.at_is f.width_is c.unpack_in.array_long
    (rw (c.in_ok-packed.ensures.left.same h) at (c.in_ok-unpack_in.ensures.value h)) in
    let rises : Rises c.in_ok-packed.packed.seed c.unpack_in.new.xs = rw (f.seed_is, is) (right_block L c.args.shape ys c.args.k l one (omega (arith, size))).rises in
    absurd (false_is c.ascending.result (c.ascending.ensures.1 rises.step) c.if-not-ascending.true)

pub returns-clause-spelled : goal.returns-clause-spelled
returns-clause-spelled g c h ys l one =
    let L : List ℕ = bytes_at (g.S.ByteSource.content c.args.source.now) c.args.place in
    let size = length_bytes_at (g.S.ByteSource.content c.args.source.now) c.args.place c.requires.lies.inside in
    let f = c.in_ok-packed.ensures.spelled h ys l in
    block_is L c.args.shape ys c.args.k c.in_ok-packed.packed.at c.in_ok-packed.packed.width c.in_ok-packed.packed.seed c.unpack_in.new.xs l one (omega (arith, size)) f.seed_is f.at_is f.width_is c.unpack_in.array_long
    (rw (c.in_ok-packed.ensures.left.same h) at (c.in_ok-unpack_in.ensures.value h))
