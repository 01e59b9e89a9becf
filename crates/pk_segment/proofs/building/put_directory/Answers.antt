-- The numbers so far, with the next one.
use Rattle.std.proofs.Common.{◌<◌, ◌^◌, ◌≤◌, List, arith, length, subst}
use Rattle.std.specs.Prelude.{All}
use Rattle.std.proofs.lemmas.Grind.{common_steps}
use Rattle.std.proofs.lemmas.List.{take_all}
use Rattle.std.proofs.lemmas.List.Elements.{All-more}
use Rattle.pk_model.specs.declared.documents.Document.{Document}
use Rattle.pk_segment.proofs.building.put_directory.Goals as goal

pub loop-d-preserved : goal.loop-d-preserved
loop-d-preserved c = record {
  spelled = grind (arith, common_steps);
  offset = grind (arith, common_steps);
  numbers =
      let lt : c.loop-d.d-index < length c.args.documents.now = omega arith in
      All-more (λ (d : Document). d.number.0 < 2 ^ 32) c.args.documents.now c.loop-d.d-index c.d-item.result lt c.loop-d.invariant.numbers
      (subst (λ (d : Document). d.number.0 < 2 ^ 32) c.d-item.is c.put_document.ensures.number);
}

pub returns-clause-numbers : goal.returns-clause-numbers
returns-clause-numbers c =
    let all : length c.args.documents.now ≤ c.loop-d.d-index = omega arith in
    subst (λ (xs : List Document). All (λ (d : Document). d.number.0 < 2 ^ 32) xs) (take_all c.loop-d.d-index c.args.documents.now all) c.loop-d.invariant.numbers
