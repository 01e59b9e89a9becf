-- A block that is kept goes first; where none is, nothing changes.
use Rattle.std.proofs.Common.{◌≡◌, rules, None, Some, ◌∙◌, ap}
use Rattle.std.specs.Map.{lookup}
use Rattle.lru.specs.LruCache.{lru_cache}
use Rattle.pk_cache.specs.Keys.{is_key}
use Rattle.pk_cache.proofs.KeptLemmas.{promoted_none, promoted_some, sound_asked}
use Rattle.pk_cache.proofs.cache.BlockCache.kept_block.Goals as goal

pub invariant_of-self : goal.invariant_of-self
invariant_of-self c = record { sound = sound_asked c.args.self.now.kept c.get.follows.lender-at-none c.args.key c.args.self.now.sound c.get.follows.holds-at-none }

pub returns-in_err-numbers-clause-none : goal.returns-in_err-numbers-clause-none
returns-in_err-numbers-clause-none c =
    let gone : lookup (is_key c.args.key) c.args.self.now.kept.entries ≡ None = search rules in
    let same : c.get.follows.lender-at-none ≡ c.args.self.now.kept = c.get.follows.holds-at-none ∙ ap (λ es. lru_cache es c.args.self.now.kept.cap) (promoted_none c.args.key c.args.self.now.kept.entries gone) in
    search rules

pub invariant_of-self-2 : goal.invariant_of-self-2
invariant_of-self-2 c = record { sound = sound_asked c.args.self.now.kept c.get.follows.lender-at-none c.args.key c.args.self.now.sound c.get.follows.holds-at-none }

pub returns-clause-order : goal.returns-clause-order
returns-clause-order c =
    let there : lookup (is_key c.args.key) c.args.self.now.kept.entries ≡ Some c.in_ok-numbers.numbers = search rules in
    rw c.get.follows.holds-at-none (promoted_some c.args.self.now.kept.cap c.args.key c.in_ok-numbers.numbers c.args.self.now.kept.entries there c.args.self.now.sound.most)
