-- The index of a merge, before a byte of it is written.
use Rattle.std.specs.Prelude.{List, Result, Ok, Err}
use Rattle.pk_merge.specs.declared.fault.MergeFault.{MergeFault}
use Rattle.pk_merge.specs.Merging.{MergeFails}
use Rattle.pk_model.specs.Collection.{Doc}
use Rattle.pk_model.specs.Terms.{terms_of}
use Rattle.pk_segment.specs.declared.index_writer.IndexWriter.{IndexWriter}
use Rattle.pk_segment.specs.Planning.{HasWords}

-- the index has all words of the documents, or a merge of them fails
abbrev pub PlansWordsAs : List Doc → Result IndexWriter MergeFault → Type 0
PlansWordsAs docs (Ok index) = HasWords index (terms_of docs) docs
PlansWordsAs docs (Err fault) = MergeFails docs 2 fault
