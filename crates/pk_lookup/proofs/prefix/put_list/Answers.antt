-- The list of the word, taken out.
use Rattle.std.proofs.lemmas.Result.{err_from_is_err_and}
use Rattle.pk_segment.specs.Indexed.{list_with}
use Rattle.pk_segment.proofs.PutsLemmas.{puts_fault}
use Rattle.pk_lookup.proofs.prefix.put_list.Goals as goal

pub returns-in_err-lies-clause-numbers : goal.returns-in_err-lies-clause-numbers
returns-in_err-lies-clause-numbers g c = λ honest docs is of word leads.
    let err = err_from_is_err_and c.from_residual.result c.from_residual.ensures.1 in
    puts_fault _ _ _ err.0 c.in_err-lies.field-0.0 err.1 err.2 (c.in_err-lies.ensures.place _ word docs is of leads)

pub returns-clause-numbers : goal.returns-clause-numbers
returns-clause-numbers g c = λ honest docs is of word leads. c.copy_rising.ensures.numbers honest (list_with word docs) (c.in_ok-lies.ensures.place _ word docs is of leads) leads.frequency
