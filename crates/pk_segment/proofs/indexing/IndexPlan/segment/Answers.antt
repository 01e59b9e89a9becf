-- The first and the last document have the numbers that a segment keeps.
use Rattle.std.proofs.Common.{◌∙◌, ◌-◌, ap, arith, length, sym}
use Rattle.std.specs.Prelude.{slice_index}
use Rattle.std.proofs.lemmas.List.{length-map}
use Rattle.pk_model.specs.Collection.{numbers_of}
use Rattle.pk_model.specs.declared.documents.Document.{Document}
use Rattle.pk_model.specs.Views.{doc_of}
use Rattle.pk_segment.specs.Spelling.{docs_of}
use Rattle.pk_segment.proofs.PlanLemmas.{header_size, number_placed}
use Rattle.pk_segment.proofs.indexing.IndexPlan.segment.Goals as goal

pub of_header-requires : goal.of_header-requires
of_header-requires c =
    let plan = c.requires in
    omega (arith, header_size (docs_of c.args.documents.now) c.args.self.now.header plan.header_is, plan.fits)

pub returns : goal.returns
returns c =
    let ds = c.args.documents.now in
    let long = length-map ds doc_of in
    let first = c.number_of-first.ensures.value ∙ ap (λ (d : Document). d.number.0) c.index-documents-0.is ∙ number_placed ds 0 c.index-documents-0.result (omega (arith, long, c.requires.are.some)) in
    let last = c.number_of-last.ensures.value ∙ ap (λ (d : Document). d.number.0) c.index-documents-documents.is
    ∙ number_placed ds (length ds - 1) c.index-documents-documents.result (omega (arith, long, c.requires.are.some))
    ∙ ap (λ n. slice_index (numbers_of (docs_of ds)) (n - 1)) (sym long) in
    c.of_header.ensures (docs_of ds) c.requires.header_is first last
