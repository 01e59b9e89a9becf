-- A part of what is held is what stands in the source.
use Rattle.std.proofs.Common.{arith}
use Rattle.pk_dict.proofs.Holding.{held_part}
use Rattle.pk_dict.proofs.windows.hold_in.Goals as goal

pub returns-then-end-from-clause-value : goal.returns-then-end-from-clause-value
returns-then-end-from-clause-value g c = held_part g.S.ByteSource.honest (g.S.ByteSource.content c.args.source.now) c.args.window.now c.args.at c.args.n c.requires.part (record { some = omega arith; after = omega arith; before = omega arith })
