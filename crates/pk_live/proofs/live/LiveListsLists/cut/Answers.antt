-- What is kept is in the list and in the documents.
use Rattle.std.proofs.Common.{◌∙◌, ap, List}
use Rattle.pk_match.proofs.PutsLemmas.{puts_as, puts_ok}
use Rattle.pk_plan.specs.Plans.{found, word_at}
use Rattle.pk_live.proofs.LiveLemmas.{cut_is}
use Rattle.pk_live.proofs.live.LiveListsLists.cut.Goals as goal

pub returns-clause-numbers : goal.returns-clause-numbers
returns-clause-numbers c = λ read words docs are o is.
    let hits = c.list_at.ensures.live docs are.keeps ∙ ap (λ (ws : List _). found (word_at ws c.args.place) docs) are.same in
    puts_ok (λ _. Unit {0}) _ _ c.keep_both.result
    (puts_as c.keep_both.result _ _ _ (cut_is o (word_at words c.args.place) c.list_at.result.now c.args.numbers.now.items docs are.rising c.requires is hits) c.keep_both.ensures.numbers)
    (λ fault. tt)
