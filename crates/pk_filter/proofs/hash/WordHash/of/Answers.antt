-- The hasher's steps are those of the definition.
use Rattle.std.proofs.Common.{ℕ, ap, ◌∙◌}
use Rattle.std.specs.Hash.FoldHasher.{write, finish}
use Rattle.pk_filter.specs.declared.hash.WordHash.{WordHash}
use Rattle.pk_filter.specs.Hashed.{hashed}
use Rattle.pk_filter.proofs.hash.WordHash.of.Goals as goal

-- the hash that a number is
abbrev hash : ℕ → WordHash
hash n = record { 0 = n }

pub returns : goal.returns
unfolding hashed
returns c = ap hash (c.finish.ensures ∙ ap finish (c.write.ensures ∙ ap (λ h. write h c.args.word.now) c.default-hasher.ensures))
