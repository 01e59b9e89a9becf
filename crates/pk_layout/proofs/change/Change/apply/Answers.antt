-- The lists leave as many segments as there were.
use Rattle.std.proofs.Common.{ap, arith, length}
use Rattle.pk_layout.proofs.ChangeLemmas.{lists_long}
use Rattle.pk_layout.proofs.change.Change.apply.Goals as goal

pub put_over-requires-clause-within : goal.put_over-requires-clause-within
put_over-requires-clause-within c =
    omega (arith, c.requires.fits.run, ap length c.put_lists.ensures.items, lists_long c.args.opened.now.items c.args.self.lists.items)
