-- One document more.
use Rattle.std.proofs.Common.{◌<◌, ◌∷◌, ◌++◌, ◌∙◌, [], ℕ, List, length, take, sym, ap, subst}
use Rattle.std.specs.Prelude.{All}
use Rattle.pk_index.specs.Index.{Keeps}
use Rattle.pk_model.specs.declared.documents.Document.{Document}
use Rattle.pk_model.specs.Collection.{Doc}
use Rattle.pk_model.specs.Views.{doc_of}
use Rattle.pk_segment.specs.Spelling.{docs_of}
use Rattle.pk_segment.proofs.PlanLemmas.{all_below, docs_next}
use Rattle.pk_segment.proofs.indexing.index_of.Goals as goal

pub loop-document-preserved : goal.loop-document-preserved
loop-document-preserved c =
    let ds = c.args.documents.now in
    let i = c.loop-document.document-index in
    let lt : i < length ds = c.loop-document-test.true in
    let d = c.document-item.result in
    let here = sym c.document-item.is in
    let next = docs_next ds i d lt ∙ ap (λ (x : Document). docs_of (take i ds) ++ doc_of x ∷ []) here in
    let below = subst (λ (x : Document). All (λ (y : Doc). y.number < (doc_of x).number) (docs_of (take i ds))) here (all_below ds i d lt c.requires) in
    let same = ap (λ (t : List ℕ). docs_of (take i ds) ++ record { number = d.number.0; text = t } ∷ []) c.as_str.ensures.value in
    subst (λ (docs : List Doc). Keeps c.add.new.self docs) (same ∙ sym next) (c.in_ok-add.ensures.ok (docs_of (take i ds)) c.loop-document.invariant below)
