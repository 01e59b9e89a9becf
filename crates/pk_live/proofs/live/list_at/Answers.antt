-- The list of a word has its answer; without a word there is none.
use Rattle.std.proofs.Common.{◌∙◌, arith, ap, sym}
use Rattle.pk_model.specs.Collection.{numbers_of}
use Rattle.pk_plan.proofs.WordLemmas.{no_word_there}
use Rattle.pk_plan.specs.Plans.{Operation, found}
use Rattle.pk_sets.proofs.IntersectionLemmas.{intersection_none}
use Rattle.pk_live.proofs.LiveLemmas.{word_live}
use Rattle.pk_live.proofs.live.list_at.Goals as goal

pub returns-then-place-words-clause-live : goal.returns-then-place-words-clause-live
returns-then-place-words-clause-live c = λ docs keeps.
    intersection_none (numbers_of docs) ∙ sym (ap (λ (o : Operation). found o docs) (no_word_there c.args.words.now c.args.place (omega arith)))

pub returns-clause-live : goal.returns-clause-live
returns-clause-live c = λ docs keeps. word_live c.args.index.now docs c.args.words.now c.args.place _ c.list.result.now (omega arith) c.list.ensures.numbers keeps
