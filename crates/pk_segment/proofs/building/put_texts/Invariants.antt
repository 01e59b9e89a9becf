-- The texts of the documents so far were put.
use Rattle.std.proofs.Common.{◌≡◌, ◌++◌, take}
use Rattle.pk_segment.specs.Spelling.{texts, docs_of}
use Rattle.pk_segment.proofs.building.put_texts.Given as goal

abbrev pub invariant-loop-d : goal.invariant-loop-d
invariant-loop-d l = l.out.items ≡ l.fn.out.items ++ texts (docs_of (take l.d-index l.documents))
