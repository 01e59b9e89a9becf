-- The numbers so far, with the next one.
use Rattle.std.proofs.Common.{◌<◌, ◌≤◌, ◌^◌, List, length, arith, subst}
use Rattle.std.specs.Prelude.{All}
use Rattle.std.proofs.lemmas.List.{take_all}
use Rattle.std.proofs.lemmas.Grind.{common_steps}
use Rattle.std.proofs.lemmas.List.Elements.{All-more}
use Rattle.pk_model.specs.declared.documents.Document.{Document}
use Rattle.pk_segment.proofs.indexing.numbers_in.Goals as goal

pub loop-document-preserved : goal.loop-document-preserved
loop-document-preserved c = record {
  numbers = grind (arith, common_steps);
  small =
      let lt : c.loop-document.document-index < length c.args.documents.now = omega arith in
      All-more (λ (d : Document). d.number.0 < 2 ^ 32) c.args.documents.now c.loop-document.document-index c.document-item.result lt c.loop-document.invariant.small
      (subst (λ (d : Document). d.number.0 < 2 ^ 32) c.document-item.is c.number_of.ensures.small);
}

pub returns-clause-small : goal.returns-clause-small
returns-clause-small c =
    let all : length c.args.documents.now ≤ c.loop-document.document-index = omega arith in
    λ ok. subst (λ (xs : List Document). All (λ (d : Document). d.number.0 < 2 ^ 32) xs) (take_all c.loop-document.document-index c.args.documents.now all) c.loop-document.invariant.small
