use Rattle.std.proofs.Common.{arith}
use Rattle.pk_posting.proofs.PuttingLemmas.{packed_put}
use Rattle.pk_posting.proofs.encoding.put_packed.Goals as goal

pub returns : goal.returns
returns c = packed_put c.args.at _ c.args.width c.args.out.now c.pack.new.out c.args.differences.now (omega arith) (λ i. (c.type_inv.out i).fits) c.pack.ensures
