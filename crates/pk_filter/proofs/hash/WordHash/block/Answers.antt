-- The block is that of the definition, and one of them.
use Rattle.std.proofs.Common.{ℕ, ◌*◌, ◌/◌, ◌^◌, ap}
use Rattle.pk_filter.specs.Hashed.{block_of}
use Rattle.pk_filter.proofs.hash.WordHash.block.Goals as goal

pub returns-clause-value : goal.returns-clause-value
unfolding block_of
returns-clause-value c = ap (λ (n : ℕ). ((c.args.self.0 / 2 ^ 32) * n) / 2 ^ 32) c.from.ensures
