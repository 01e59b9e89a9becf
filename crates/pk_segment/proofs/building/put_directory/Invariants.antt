-- What is left of the directory stands behind what was put.
use Rattle.std.proofs.Common.{◌≡◌, ◌+◌, ◌++◌, ◌<◌, ◌^◌, drop, take, length}
use Rattle.std.specs.Prelude.{All}
use Rattle.pk_segment.specs.Spelling.{directory, texts, docs_of}
use Rattle.pk_model.specs.declared.documents.Document.{Document}
use Rattle.pk_segment.proofs.building.put_directory.Given as goal

abbrev pub invariant-loop-d : goal.invariant-loop-d
invariant-loop-d l = record {
  spelled : l.out.items ++ directory l.at (docs_of (drop l.d-index l.documents)) ≡ l.fn.out.items ++ directory 0 (docs_of l.documents);
  offset : l.at + length (texts (docs_of (drop l.d-index l.documents))) ≡ length (texts (docs_of l.documents));
  numbers : All (λ (d : Document). d.number.0 < 2 ^ 32) (take l.d-index l.documents);
}
