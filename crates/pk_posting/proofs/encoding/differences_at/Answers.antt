use Rattle.pk_posting.proofs.RisingLemmas.{differences_are}
use Rattle.pk_posting.proofs.encoding.differences_at.Goals as goal

pub returns-clause-differences : goal.returns-clause-differences
returns-clause-differences c =
    (differences_are c.args.xs.now c.args.k c.differ.new.ds c.width.result c.requires.posting c.requires.inside
    (rw (c.seed_at.ensures, c.block_at.ensures) at c.differ.ensures) c.differ.array_long c.width.ensures.most c.width.ensures.fits c.width.ensures.least).0

pub returns-clause-width : goal.returns-clause-width
returns-clause-width c =
    (differences_are c.args.xs.now c.args.k c.differ.new.ds c.width.result c.requires.posting c.requires.inside
    (rw (c.seed_at.ensures, c.block_at.ensures) at c.differ.ensures) c.differ.array_long c.width.ensures.most c.width.ensures.fits c.width.ensures.least).1
