-- The filter that is kept of the segment has its words, and the dictionary says the rest.
use Rattle.std.proofs.Common.{◌∙◌, ap, sym, subst, List, ℕ}
use Rattle.pk_segment.specs.Spelling.{IndexSpells}
use Rattle.pk_lookup.proofs.FilterLemmas.{agrees_added, lent_words}
use Rattle.pk_dict.specs.declared.entry.DictPlace.{DictPlace}
use Rattle.pk_plan.specs.Words.{texts}
use Rattle.pk_lookup.proofs.SaidLemmas.{none_lent}
use Rattle.std.proofs.lemmas.Result.{on_ok_weaker}
use Rattle.pk_lookup.specs.Said.{SaysOfEach}
use Rattle.pk_lookup.proofs.listed.look_up.Goals as goal

pub returns-clause-entries : goal.returns-clause-entries
returns-clause-entries g c = λ honest docs index of agree.
    let content = g.S.ByteSource.content in
    let o = c.args.sought.now.opened.now in
    let all = agrees_added g.S.ByteSource.honest (content c.args.source.now) o _ _ c.in_ok-note.ensures.adds honest agree in
    let has = lent_words (content c.args.source.now) o _ docs c.filter_at.result all index of c.filter_at.ensures in
    let here = subst (λ (x : List ℕ). IndexSpells x docs) (sym (c.in_ok-note.ensures.left.same honest)) index in
    c.put_entries-2.ensures.entries honest docs (subst (λ s. IndexSpells (content s) docs) (sym c.on-windows.ensures.source) here) (c.dictionary_place.ensures ∙ of.dictionary) has

pub returns-clause-said : goal.returns-clause-said
returns-clause-said g c = λ honest none.
    let content = g.S.ByteSource.content in
    let o = c.args.sought.now.opened.now in
    let words = texts c.args.sought.now.words.words.now in
    let known = c.put_entries-2.new.known.items in
    let lent = none_lent _ o.entry.segment c.filter_at.result c.filter_at.ensures none in
    let same = ap content c.on-windows.ensures.source ∙ c.in_ok-note.ensures.left.same honest in
    on_ok_weaker _ (λ says. subst (λ (lies : DictPlace). SaysOfEach (content c.args.source.now) lies words known) c.dictionary_place.ensures
    (subst (λ (x : List ℕ). SaysOfEach x c.dictionary_place.result words known) same says)) (c.put_entries-2.ensures.said honest lent)

-- so it is where the filter rules out each word
pub returns-then-rules_out_all-clause-entries : goal.returns-then-rules_out_all-clause-entries
returns-then-rules_out_all-clause-entries g c = λ honest docs index of agree.
    let content = g.S.ByteSource.content in
    let o = c.args.sought.now.opened.now in
    let all = agrees_added g.S.ByteSource.honest (content c.args.source.now) o _ _ c.in_ok-note.ensures.adds honest agree in
    let has = lent_words (content c.args.source.now) o _ docs c.filter_at.result all index of c.filter_at.ensures in
    let here = subst (λ (x : List ℕ). IndexSpells x docs) (sym (c.in_ok-note.ensures.left.same honest)) index in
    c.put_entries.ensures.entries honest docs here (c.dictionary_place.ensures ∙ of.dictionary) has

pub returns-then-rules_out_all-clause-said : goal.returns-then-rules_out_all-clause-said
returns-then-rules_out_all-clause-said g c = λ honest none.
    let content = g.S.ByteSource.content in
    let words = texts c.args.sought.now.words.words.now in
    let known = c.put_entries.new.known.items in
    let lent = none_lent _ c.args.sought.now.opened.now.entry.segment c.filter_at.result c.filter_at.ensures none in
    on_ok_weaker _ (λ says. subst (λ (lies : DictPlace). SaysOfEach (content c.args.source.now) lies words known) c.dictionary_place.ensures
    (subst (λ (x : List ℕ). SaysOfEach x c.dictionary_place.result words known) (c.in_ok-note.ensures.left.same honest) says)) (c.put_entries.ensures.said honest lent)
