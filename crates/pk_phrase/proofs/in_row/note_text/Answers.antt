-- One number more, which is kept where the words stand in its text.
use Rattle.std.proofs.Common.{◌∙◌, ◌+◌, ◌++◌, ◌∷◌, [], append-nil, take, true, false, sym, ap, List, ℕ}
use Rattle.pk_model.specs.Collection.{answer}
use Rattle.pk_model.specs.Tree.{Phrase}
use Rattle.pk_sets.proofs.PartLemmas.{rising_all}
use Rattle.pk_sets.specs.Sets.{intersection}
use Rattle.pk_words.specs.Rows.{texts}
use Rattle.pk_phrase.proofs.InRowLemmas.{stands_text}
use Rattle.pk_sets.proofs.CallerLemmas.{intersection_more}
use Rattle.pk_phrase.specs.declared.in_row.RowHits.{RowHits}
use Rattle.pk_phrase.proofs.in_row.note_text.Goals as goal
use Rattle.pk_phrase.proofs.in_row.note_text.Goals.{then-is+in_ok-extend_from_slice, else-is}

pub returns-clause-kept : goal.returns-clause-kept
returns-clause-kept c = λ bytes docs within same so_far.
    let row = texts c.args.search.now.row.now.words.now in
    let hits = answer (Phrase row) docs in
    let numbers = c.args.search.now.numbers.now in
    let i = c.args.hits.now.next in
    let x = c.args.candidate.number in
    let says = c.in_ok-is.ensures ∙ stands_text row docs x c.args.text.now (rising_all _ within.spelled.are.rising) same in
    record {
      items = elim c.if-is.branch [
        | then-is+in_ok-extend_from_slice w ↦
            ap (λ (h : RowHits). h.kept.items) w.hits-is ∙ w.in_ok-extend_from_slice.ensures.items ∙ ap (λ (ns : List ℕ). ns ++ x ∷ []) so_far.items
            ∙ sym (intersection_more hits numbers i x true c.requires.some c.requires.number (sym says ∙ w.if-is.true))
            ∙ ap (λ (h : RowHits). intersection (take (h.next + 1) numbers) hits) (sym w.hits-is)
        | else-is w ↦
            ap (λ (h : RowHits). h.kept.items) w.hits-is ∙ so_far.items ∙ sym (append-nil (intersection (take i numbers) hits))
            ∙ sym (intersection_more hits numbers i x false c.requires.some c.requires.number (sym says ∙ w.if-is.false))
            ∙ ap (λ (h : RowHits). intersection (take (h.next + 1) numbers) hits) (sym w.hits-is)
      ];
    }
