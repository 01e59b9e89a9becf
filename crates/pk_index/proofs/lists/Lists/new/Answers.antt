-- There is no word.
use Rattle.pk_index.proofs.TableLemmas.{no_words}
use Rattle.pk_index.proofs.lists.Lists.new.Goals as goal

pub invariant_of-result : goal.invariant_of-result
invariant_of-result c = no_words c.new.result c.new-2.result.items c.new.ensures
