-- The words of the rows so far were added.
use Rattle.std.proofs.Common.{◌≡◌, length, map, take}
use Rattle.pk_model.specs.Limits.{max_segment_bytes}
use Rattle.pk_segment.specs.Planning.{HasEntries, HasWords}
use Rattle.pk_segment.specs.Spelling.{docs_of}
use Rattle.pk_segment.proofs.indexing.index_rows.Given as goal

abbrev pub invariant-loop-row : goal.invariant-loop-row
invariant-loop-row l = record {
  words : HasWords l.writer (map (λ row. row.word.now) (take l.row-index l.rows)) (docs_of l.documents);
  entries : HasEntries l.writer;
  room : length l.list ≡ length l.fn.list;
  most_kept : l.writer.most_kept ≡ max_segment_bytes;
}
