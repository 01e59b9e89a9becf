-- Word by word, by the list of each.
use Rattle.std.proofs.Common.{◌≡◌, ◌∙◌, ◌+◌, ◌++◌, ◌∷◌, [], ℕ, List, take, drop, refl, sym, ap, subst, arith}
use Rattle.std.proofs.lemmas.List.{take_all}
use Rattle.std.proofs.lemmas.Result.{err_from_is_err_and}
use Rattle.pk_model.proofs.TermLemmas.{one_terms}
use Rattle.pk_model.specs.Terms.{terms_of}
use Rattle.pk_posting.specs.Posting.{IsPosting}
use Rattle.pk_segment.specs.declared.building.BuildFault.{BuildFault}
use Rattle.pk_segment.specs.Building.{BuildFails}
use Rattle.pk_segment.specs.Indexed.{list_with}
use Rattle.pk_segment.specs.Planning.{HasWords}
use Rattle.pk_segment.specs.Spelling.{docs_of}
use Rattle.pk_segment.proofs.IndexLemmas.{list_posting}
use Rattle.pk_segment.proofs.PlanLemmas.{few, front_next, list_found, split, word_at, words_in}
use Rattle.pk_segment.proofs.indexing.index_rows.Goals as goal

pub add-requires-clause-posting : goal.add-requires-clause-posting
add-requires-clause-posting c =
    let docs = docs_of c.args.documents.now in
    let list = list_found docs c.args.rows.now c.loop-row.row-index c.args.live.now _ c.loop-row-test.true c.requires.rows c.requires.live c.both_into-count.ensures.found in
    subst IsPosting (sym list) (list_posting (word_at c.args.rows.now c.loop-row.row-index) docs c.requires.are (few docs c.requires.fits))

pub loop-row-preserved : goal.loop-row-preserved
loop-row-preserved c =
    let docs = docs_of c.args.documents.now in
    let rows = c.args.rows.now in
    let i = c.loop-row.row-index in
    let xs = words_in (take i rows) in
    let lt = c.loop-row-test.true in
    let w = word_at rows i in
    let list = list_found docs rows i c.args.live.now _ lt c.requires.rows c.requires.live c.both_into-count.ensures.found in
    let same = c.as_bytes.ensures.value in
    let ys = words_in (drop (i + 1) rows) in
    let terms = subst (λ (u : List ℕ). terms_of docs ≡ xs ++ (u ∷ ys)) (sym same)
    (sym (one_terms _ docs c.requires.rows.terms) ∙ split rows i lt) in
    let numbers = list ∙ ap (λ (u : List ℕ). list_with u docs) (sym same) in
    record {
      words = subst (λ (ws : List (List ℕ)). HasWords c.add.new.self ws docs)
          (ap (λ (u : List ℕ). xs ++ u ∷ []) same ∙ sym (front_next rows i lt))
          (c.in_ok-add.ensures.words docs xs ys terms numbers c.loop-row.invariant.words);
      entries = c.in_ok-add.ensures.entries;
      room = omega (arith, c.both_into-count.auto.out, c.loop-row.invariant.room);
      most_kept = c.in_ok-add.ensures.most_kept ∙ c.loop-row.invariant.most_kept;
    }

pub returns-clause-index : goal.returns-clause-index
returns-clause-index c =
    let docs = docs_of c.args.documents.now in
    let all = ap words_in (take_all c.loop-row.row-index c.args.rows.now (omega (arith, c.loop-row-test.false))) ∙ one_terms _ docs c.requires.rows.terms in
    subst (λ (ws : List (List ℕ)). HasWords c.loop-row.writer ws docs) all c.loop-row.invariant.words

pub loop-row-init : goal.loop-row-init
loop-row-init c = record {
  words = c.new-writer.ensures.words (docs_of c.args.documents.now);
  entries = c.new-writer.ensures.entries;
  room = refl;
  most_kept = c.new-writer.ensures.most_kept;
}

pub returns-in_err-add-clause-index : goal.returns-in_err-add-clause-index
returns-in_err-add-clause-index c =
    let docs = docs_of c.args.documents.now in
    let rows = c.args.rows.now in
    let i = c.loop-row.row-index in
    let xs = words_in (take i rows) in
    let lt = c.loop-row-test.true in
    let list = list_found docs rows i c.args.live.now _ lt c.requires.rows c.requires.live c.both_into-count.ensures.found in
    let same = c.as_bytes.ensures.value in
    let ys = words_in (drop (i + 1) rows) in
    let terms = subst (λ (u : List ℕ). terms_of docs ≡ xs ++ (u ∷ ys)) (sym same)
    (sym (one_terms _ docs c.requires.rows.terms) ∙ split rows i lt) in
    let fault = c.in_err-add.ensures.words docs xs ys terms
    (list ∙ ap (λ (u : List ℕ). list_with u docs) (sym same)) c.loop-row.invariant.words in
    let found = err_from_is_err_and c.from_residual.result c.from_residual.ensures.1 in
    rw found.1 (subst (λ (f : BuildFault). BuildFails docs 2 f) (sym found.2) fault)
