-- What the error of the parse means is why the words ask for no command.
use Rattle.pk_arguments.proofs.CommandLineLemmas.{words_unasked}
use Rattle.pk_arguments.proofs.asked.asked_by_words.Goals as goal

pub returns-in-Ok-to_string-clause-none : goal.returns-in-Ok-to_string-clause-none
returns-in-Ok-to_string-clause-none c =
    words_unasked _ _ c.in-Err.error _ c.unasked_by.result c.in-Ok.ensures c.in-Err.ensures.kinds c.unasked_by.ensures
