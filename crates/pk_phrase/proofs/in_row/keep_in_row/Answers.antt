-- What is kept is of documents that hold what was found before.
use Rattle.std.proofs.Common.{◌∙◌, ap, length, sym, subst, List, ℕ}
use Rattle.std.proofs.lemmas.Result.{err_from_is_err_and}
use Rattle.std.specs.List.Sorted.{IsStrictlyIncreasing}
use Rattle.pk_sets.proofs.CallerLemmas.{intersection_rises}
use Rattle.pk_model.specs.Collection.{answer}
use Rattle.pk_model.specs.Tree.{Phrase}
use Rattle.pk_plan.specs.Plans.{found}
use Rattle.pk_plan.proofs.FoundLemmas.{found_rises}
use Rattle.pk_sets.specs.Sets.{intersection}
use Rattle.pk_words.specs.Rows.{texts}
use Rattle.pk_phrase.proofs.InRowLemmas.{found_live}
use Rattle.pk_segment.proofs.PutsLemmas.{puts_fault}
use Rattle.pk_phrase.specs.Said.{HaveTexts}
use Rattle.pk_phrase.proofs.in_row.keep_in_row.Goals as goal

pub returns-in_err-kept-clause-numbers : goal.returns-in_err-kept-clause-numbers
returns-in_err-kept-clause-numbers g c = λ honest docs is of o from.
    let err = err_from_is_err_and c.from_residual.result c.from_residual.ensures.1 in
    let live = found_live o docs c.deref.result.now is.are.rising (c.deref.ensures.value ∙ from) in
    puts_fault _ _ _ err.0 c.in_err-kept.field-0.0 err.1 err.2 (c.in_err-kept.ensures.kept honest docs is of live)

pub returns-then-not-is_rising-clause-numbers : goal.returns-then-not-is_rising-clause-numbers
returns-then-not-is_rising-clause-numbers g c = λ honest docs is of o from.
    let live = found_live o docs c.deref.result.now is.are.rising (c.deref.ensures.value ∙ from) in
    let rises = intersection_rises (found o docs) (answer (Phrase (texts c.args.row.now.words.now)) docs) c.in_ok-kept.kept.items (found_rises o docs is.are.rising) (c.in_ok-kept.ensures.kept honest docs is of live ∙ ap (λ (ns : List ℕ). intersection ns (answer (Phrase (texts c.args.row.now.words.now)) docs)) (c.deref.ensures.value ∙ from)) in
    let yes = c.is_rising.ensures.1 (subst IsStrictlyIncreasing (sym c.deref-2.ensures.value) rises) in
    cc (yes, c.if-not-is_rising.true)

pub returns-clause-numbers : goal.returns-clause-numbers
returns-clause-numbers g c = λ honest docs is of o from.
    let live = found_live o docs c.deref.result.now is.are.rising (c.deref.ensures.value ∙ from) in
    c.in_ok-kept.ensures.kept honest docs is of live ∙ ap (λ (ns : List ℕ). intersection ns (answer (Phrase (texts c.args.row.now.words.now)) docs)) (c.deref.ensures.value ∙ from)

pub returns-clause-read : goal.returns-clause-read
returns-clause-read g c = λ honest.
    let content = g.S.ByteSource.content c.args.source.now in
    subst (λ (ns : List ℕ). HaveTexts content c.args.segment.now ns 0 (length ns)) c.deref.ensures.value (c.in_ok-kept.ensures.read honest)
