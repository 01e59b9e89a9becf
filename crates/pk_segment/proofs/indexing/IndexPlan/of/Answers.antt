-- The parts of the plan, and how long they make the segment.
use Rattle.std.proofs.Common.{◌∙◌, List, Result, refl, sym, subst, arith}
use Rattle.std.proofs.lemmas.List.{length-map}
use Rattle.std.proofs.lemmas.Result.{err_from_is_err_and}
use Rattle.pk_index.specs.Terms.{AreRows}
use Rattle.pk_index.specs.declared.terms.Row.{Row}
use Rattle.pk_model.specs.Views.{doc_of}
use Rattle.pk_segment.specs.declared.building.BuildFault.{BuildFault}
use Rattle.pk_segment.specs.declared.indexing.IndexPlan.{IndexPlan}
use Rattle.pk_segment.specs.Building.{BuildFails}
use Rattle.pk_segment.specs.Planning.{PlansIndexAs}
use Rattle.pk_segment.specs.Spelling.{docs_of}
use Rattle.pk_segment.proofs.PlanLemmas.{fails_more, front_of}
use Rattle.pk_segment.proofs.ReadLemmas.{are_documents}
use Rattle.pk_segment.proofs.indexing.IndexPlan.of.Goals as goal

pub returns-in_err-front : goal.returns-in_err-front
returns-in_err-front c =
    let docs = docs_of c.args.documents.now in
    let found = err_from_is_err_and c.from_residual.result c.from_residual.ensures.1 in
    subst (λ (r : Result IndexPlan BuildFault). PlansIndexAs docs r) (sym found.1)
    (subst (λ (f : BuildFault). BuildFails docs 2 f) (sym found.2) (fails_more docs c.in_err-front.field-0.0 c.in_err-front.ensures.size))

pub index_rows-requires-clause-are : goal.index_rows-requires-clause-are
index_rows-requires-clause-are c = are_documents c.args.documents.now c.requires.some c.requires.rising c.requires.least (c.in_ok-live.ensures.small refl)

pub index_rows-requires-clause-rows : goal.index_rows-requires-clause-rows
index_rows-requires-clause-rows c =
    let docs = docs_of c.args.documents.now in
    let live = c.deref.ensures.value ∙ c.in_ok-live.ensures.numbers in
    subst (λ (rows : List Row). AreRows rows docs) (sym c.deref-3.ensures.value) (c.in_ok-rows.ensures docs c.requires.index live)

pub overflow_cast-documents : goal.overflow_cast-documents
overflow_cast-documents c =
    let ds = c.args.documents.now in
    omega (arith, c.in_ok-front.ensures.size.0, c.in_ok-front.ensures.size.1, front_of (docs_of ds), length-map ds doc_of)

pub header-requires-clause-front : goal.header-requires-clause-front
header-requires-clause-front c =
    let ds = c.args.documents.now in
    omega (arith, c.in_ok-front.ensures.size.0, front_of (docs_of ds), length-map ds doc_of)

pub returns : goal.returns
returns c =
    let docs = docs_of c.args.documents.now in
    let headed = c.in_ok-header.ensures.header docs c.in_ok-index.ensures.index (sym (length-map c.args.documents.now doc_of)) c.in_ok-front.ensures.size.0 in
    record {
      are = are_documents c.args.documents.now c.requires.some c.requires.rising c.requires.least (c.in_ok-live.ensures.small refl);
      header_is = headed.0;
      words = c.in_ok-index.ensures.index;
      fits = headed.1;
    }
