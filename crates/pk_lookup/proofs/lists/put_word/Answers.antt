-- The list of the word, taken out.
use Rattle.std.proofs.Common.{◌∙◌, sym, subst}
use Rattle.std.proofs.lemmas.Result.{err_from_is_err_and}
use Rattle.pk_plan.specs.Plans.{Operation, found, word_at}
use Rattle.pk_segment.specs.Indexed.{list_with}
use Rattle.pk_segment.specs.Puts.{PutsAs}
use Rattle.pk_lookup.proofs.CacheLemmas.{led_there, serves_taken}
use Rattle.pk_lookup.proofs.ListLemmas.{none_held, some_held}
use Rattle.pk_segment.proofs.PutsLemmas.{puts_fault}
use Rattle.pk_lookup.proofs.lists.put_word.Goals as goal

pub returns-in_default-clause-numbers : goal.returns-in_default-clause-numbers
returns-in_default-clause-numbers g c = λ honest words docs served.
    c.clear.ensures.items ∙ sym (none_held docs (word_at words c.args.place) c.entry_at.result (c.entry_at.ensures.leads words docs served.are.entries) c.in_default.is)

pub returns-in_err-lies-clause-numbers : goal.returns-in_err-lies-clause-numbers
returns-in_err-lies-clause-numbers g c = λ honest words docs served.
    let err = err_from_is_err_and c.from_residual.result c.from_residual.ensures.1 in
    let entry = some_held docs (word_at words c.args.place) c.entry_at.result c.in-Some.entry (c.entry_at.ensures.leads words docs served.are.entries) c.in-Some.is in
    puts_fault _ _ _ err.0 c.in_err-lies.field-0.0 err.1 err.2 (rw c.in_err-lies.was at (c.place_of-told.ensures.place (g.S.ByteSource.content c.args.source.now) entry.0 docs served.index served.are.segment.segment entry.2))

pub returns-clause-numbers : goal.returns-clause-numbers
returns-clause-numbers g c = λ honest words docs served.
    let led = led_there c.args.place words docs c.entry_at.ensures.leads c.in-Some.is (λ bytes word ds is of leads. rw c.in_ok-lies.was at (c.place_of-told.ensures.place bytes word ds is of leads)) served in
    subst (λ (o : Operation). PutsAs (found o docs) c.take_out-answer.new.out.items c.take_out-answer.result) (sym led.1)
    (c.take_out-answer.ensures.numbers honest (list_with led.0 docs) led.3 led.2.frequency served.cached)

pub returns-clause-served : goal.returns-clause-served
returns-clause-served g c = serves_taken c.args.place c.entry_at.ensures.leads c.in-Some.is (λ bytes word ds is of leads. rw c.in_ok-lies.was at (c.place_of-told.ensures.place bytes word ds is of leads)) c.take_out-answer.ensures.left.same c.take_out-answer.ensures.adds c.take_out-answer.ensures.cached
