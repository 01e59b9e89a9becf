-- A block that was not kept goes first, where there is memory for it.
use Rattle.pk_cache.proofs.KeptLemmas.{sound_put, entries_put}
use Rattle.pk_cache.proofs.cache.BlockCache.keep.Goals as goal

pub invariant_of-self : goal.invariant_of-self
invariant_of-self c = record {
  sound = sound_put c.args.self.now.kept c.put.new.self c.args.key c.args.numbers c.put.result c.args.self.now.sound c.requires.none c.requires.rises (c.put.ensures.entries, c.put.ensures.err);
}

pub returns-clause-order : goal.returns-clause-order
returns-clause-order c = rw c.is_err-self.ensures.value (entries_put c.args.self.now.kept c.put.new.self c.args.key c.args.numbers c.put.result c.args.self.now.sound c.requires.none (c.put.ensures.entries, c.put.ensures.err))
