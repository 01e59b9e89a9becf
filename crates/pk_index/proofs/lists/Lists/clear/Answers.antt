-- There is no word.
use Rattle.pk_index.proofs.TableLemmas.{no_words}
use Rattle.pk_index.proofs.lists.Lists.clear.Goals as goal

pub invariant_of-self : goal.invariant_of-self
invariant_of-self c = no_words c.clear.new.self c.clear-2.new.self.items c.clear.ensures
