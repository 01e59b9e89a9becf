-- The index is that of the documents so far.
use Rattle.std.proofs.Common.{take}
use Rattle.pk_index.specs.Index.{Keeps}
use Rattle.pk_segment.specs.Spelling.{docs_of}
use Rattle.pk_segment.proofs.indexing.index_of.Given as goal

abbrev pub invariant-loop-document : goal.invariant-loop-document
invariant-loop-document l = Keeps l.index (docs_of (take l.document-index l.documents))
