-- A block that rises, behind whole blocks.
use Rattle.std.proofs.Common.{sym, subst}
use Rattle.pk_lookup.proofs.RisingLemmas.{blocks_behind}
use Rattle.pk_lookup.specs.Blocks.{AreBlocks}
use Rattle.pk_lookup.proofs.kept.put_block.Goals as goal

pub returns-clause-whole : goal.returns-clause-whole
returns-clause-whole c =
    subst AreBlocks (sym c.in_ok-extend_from_slice.ensures.items)
    (blocks_behind c.args.out.now.items c.args.numbers.now c.requires.whole c.told-numbers c.requires.rises)
