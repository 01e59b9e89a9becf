-- All numbers were gone through.
use Rattle.std.proofs.Common.{◌∙◌, List, ℕ, ap, arith, rules, subst, sym}
use Rattle.std.proofs.lemmas.List.{take_all}
use Rattle.pk_model.specs.Collection.{answer}
use Rattle.pk_model.specs.Tree.{Phrase}
use Rattle.pk_sets.specs.Sets.{intersection}
use Rattle.pk_words.specs.Rows.{texts}
use Rattle.pk_phrase.proofs.SaidLemmas.{texts_then}
use Rattle.pk_phrase.specs.Said.{HaveTexts, SearchRead}
use Rattle.pk_phrase.proofs.in_row.found_in_row.Goals as goal

pub returns-clause-kept : goal.returns-clause-kept
returns-clause-kept g c = λ honest docs within.
    let hits = answer (Phrase (texts c.args.search.now.row.now.words.now)) docs in
    let every = take_all c.numbers.hits.next c.args.search.now.numbers.now c.numbers-test.false in
    (c.numbers.invariant.kept honest docs within).items ∙ ap (λ (ns : List ℕ). intersection ns hits) every

pub returns-clause-read : goal.returns-clause-read
returns-clause-read g c = λ honest read i le lt. c.numbers.invariant.read honest read i le (omega (arith, lt, c.numbers-test.false))

pub numbers-preserved : goal.numbers-preserved
numbers-preserved g c =
    let content = g.S.ByteSource.content in
    let s = c.args.search.now.segment.now in
    let numbers = c.args.search.now.numbers.now in
    let before = c.numbers.invariant in
    record {
      left = search rules;
      kept = search rules;
      read = λ honest read.
          let same = before.left.same honest in
          let more = c.in_ok-note_next.ensures.read honest (subst (λ (x : List ℕ). SearchRead x c.args.search.now) (sym same) read) in
          texts_then (content c.args.source.now) s numbers _ _ _ (before.read honest read) (subst (λ (x : List ℕ). HaveTexts x s numbers c.numbers.hits.next c.note_next.new.hits.next) same more);
    }
