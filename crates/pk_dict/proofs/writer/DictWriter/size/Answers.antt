-- The offsets and the groups are all.
use Rattle.std.proofs.Common.{arith}
use Rattle.pk_dict.proofs.Growing.{added_size}
use Rattle.pk_dict.proofs.writer.DictWriter.size.Goals as goal

pub returns : goal.returns
returns c es a = omega (arith, added_size c.args.self.now es a, a.size, c.len.ensures, c.len-2.ensures, c.saturating_mul.ensures, c.saturating_add.ensures)
