-- The numbers of the documents so far.
use Rattle.std.proofs.Common.{◌≡◌, ◌<◌, ◌^◌, take}
use Rattle.std.specs.Prelude.{All}
use Rattle.pk_model.specs.Collection.{numbers_of}
use Rattle.pk_model.specs.declared.documents.Document.{Document}
use Rattle.pk_segment.specs.Spelling.{docs_of}
use Rattle.pk_segment.proofs.indexing.numbers_in.Given as goal

abbrev pub invariant-loop-document : goal.invariant-loop-document
invariant-loop-document l = record {
  numbers : l.numbers.items ≡ numbers_of (docs_of (take l.document-index l.documents));
  small : All (λ (d : Document). d.number.0 < 2 ^ 32) (take l.document-index l.documents);
}
