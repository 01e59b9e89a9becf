-- What is kept is the map's before and after.
use Rattle.std.proofs.Common.{◌≡◌, ◌∙◌, List, ℕ, Some, sym, ap, rules}
use Rattle.std.proofs.lemmas.Result.{err_from_is_err_and}
use Rattle.pk_cache.specs.Kept.{IsBlockAt, kept_at}
use Rattle.pk_cache.proofs.CallerLemmas.{at_block, each_after, each_still}
use Rattle.pk_cache.proofs.cache.BlockCache.block.Goals as goal

pub returns-in-Some-clause-spelled : goal.returns-in-Some-clause-spelled
returns-in-Some-clause-spelled g c h ys l one kept =
    let there : kept_at c.args.self.now c.args.key ≡ Some c.in-Some.numbers = search rules in
    let is : IsBlockAt (g.S.ByteSource.content c.args.source.now) c.args.key c.in-Some.numbers = rw there at kept in
    at_block (g.S.ByteSource.content c.args.source.now) c.args.place c.args.shape ys c.in-Some.numbers c.args.key c.requires.at l one is

pub returns-in-Some-clause-agrees : goal.returns-in-Some-clause-agrees
returns-in-Some-clause-agrees g c h blocks ys l one has all =
    let here = all c.args.key c.in-Some.numbers (search rules) in
    (here, each_after (λ k xs. blocks k ≡ Some xs) c.args.self.now c.kept_block.new.self c.args.key c.in-Some.numbers (search rules) all here)

pub returns-in_err-block_in-clause-agrees : goal.returns-in_err-block_in-clause-agrees
returns-in_err-block_in-clause-agrees g c h blocks ys l one has all =
    let p = err_from_is_err_and c.from_residual.result c.from_residual.ensures.1 in
    let same : c.kept_block.new.self.kept ≡ c.args.self.now.kept = search rules in (
      rw (p.1, p.2) (c.in_err-block_in.ensures.spelled h ys l one),
      each_still (λ k xs. blocks k ≡ Some xs) c.args.self.now c.kept_block.new.self same all,
    )

pub returns-clause-spelled : goal.returns-clause-spelled
returns-clause-spelled g c h ys l one kept = c.in_ok-block_in.ensures.spelled h ys l one

pub returns-clause-agrees : goal.returns-clause-agrees
returns-clause-agrees g c h blocks ys l one has all =
    let is = c.in_ok-block_in.ensures.spelled h ys l one in
    let here = has ∙ ap (λ (xs : List ℕ). Some xs) (sym is) in
    (here, each_after (λ k xs. blocks k ≡ Some xs) c.args.self.now c.keep.new.self c.args.key c.block_in.new.xs (search rules) all here)
