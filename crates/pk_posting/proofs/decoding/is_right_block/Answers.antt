use Rattle.std.proofs.Common.{◌≡◌, IsTrue}
use Rattle.pk_posting.proofs.DifferenceLemmas.{is_good, restored_is}
use Rattle.pk_posting.proofs.ReadingLemmas.{false_is}
use Rattle.pk_posting.proofs.decoding.is_right_block.Goals as goal

pub returns-then-not-ascending-clause-only : goal.returns-then-not-ascending-clause-only
returns-then-not-ascending-clause-only c ys g =
    let r = c.requires.restored in
    let same : c.args.xs.now ≡ ys = restored_is c.args.bytes.now c.args.at c.args.b c.args.seed.now r.0 c.args.xs.now ys
    (record { four = c.told-seed; step = c.requires.order }) r.1 g r.2 c.told-xs in
    absurd (false_is c.ascending.result (c.ascending.ensures.1 (rw same g.rises.step)) c.if-not-ascending.true)

pub returns-clause-good : goal.returns-clause-good
returns-clause-good c t =
    let r = c.requires.restored in
    is_good c.args.bytes.now c.args.at c.args.b c.args.seed.now r.0 c.args.xs.now
    (record { four = c.told-seed; step = c.requires.order }) c.requires.small c.requires.room r.1 (c.needs_bits.ensures.0 t) r.2 c.told-xs
    (c.ascending.ensures.0 c.if-not-ascending.false)

pub returns-clause-only : goal.returns-clause-only
returns-clause-only c ys g =
    let r = c.requires.restored in
    let same : c.args.xs.now ≡ ys = restored_is c.args.bytes.now c.args.at c.args.b c.args.seed.now r.0 c.args.xs.now ys
    (record { four = c.told-seed; step = c.requires.order }) r.1 g r.2 c.told-xs in
    let up : IsTrue c.needs_bits.result = c.needs_bits.ensures.1 (rw same g.block.least) in
    (up, same)
