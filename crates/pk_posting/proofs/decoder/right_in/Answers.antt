use Rattle.pk_posting.proofs.DecoderLemmas.{restored_whole, right_here, right_there}
use Rattle.pk_posting.proofs.ReadingLemmas.{false_is}
use Rattle.pk_posting.proofs.decoder.right_in.Goals as goal

pub is_right_block-requires-clause-restored : goal.is_right_block-requires-clause-restored
is_right_block-requires-clause-restored g c =
    restored_whole c.in_ok-stretch.stretch.now c.args.packed.width c.args.packed.seed c.unpack_sums.new.xs c.in_ok-stretch.ensures.lent c.unpack_sums.ensures

pub returns-then-not-is_right_block-clause-only : goal.returns-then-not-is_right_block-clause-only
returns-then-not-is_right_block-clause-only g c honest ys good =
    let here = right_here (g.S.ByteSource.content c.args.source.now) c.args.place c.args.packed.width c.args.packed.at c.in_ok-stretch.stretch.now c.args.packed.seed ys
    c.in_ok-stretch.ensures.lent (record { inside = c.requires.inside.room; is = c.in_ok-stretch.ensures.value honest }) good in
    absurd (false_is c.is_right_block.result (c.is_right_block.ensures.only ys here).0 c.if-not-is_right_block.true)

pub returns-clause-right : goal.returns-clause-right
returns-clause-right g c honest =
    right_there (g.S.ByteSource.content c.args.source.now) c.args.place c.args.packed.width c.args.packed.at c.in_ok-stretch.stretch.now c.args.packed.seed c.unpack_sums.new.xs
    c.requires.lies.inside c.in_ok-stretch.ensures.lent (record { inside = c.requires.inside.room; is = c.in_ok-stretch.ensures.value honest }) (c.is_right_block.ensures.good c.if-not-is_right_block.false)

pub returns-clause-only : goal.returns-clause-only
returns-clause-only g c honest ys good =
    let here = right_here (g.S.ByteSource.content c.args.source.now) c.args.place c.args.packed.width c.args.packed.at c.in_ok-stretch.stretch.now c.args.packed.seed ys
    c.in_ok-stretch.ensures.lent (record { inside = c.requires.inside.room; is = c.in_ok-stretch.ensures.value honest }) good in
    (c.is_right_block.ensures.only ys here).1

pub returns-clause-rises : goal.returns-clause-rises
returns-clause-rises g c is = (c.is_right_block.ensures.good c.if-not-is_right_block.false).rises
