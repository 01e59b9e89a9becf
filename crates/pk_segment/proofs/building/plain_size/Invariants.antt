-- The total, and the texts that are left, make the length.
use Rattle.std.proofs.Common.{◌≡◌, ◌≤◌, ◌+◌, length, drop}
use Rattle.pk_segment.specs.Spelling.{texts, segment_length, docs_of}
use Rattle.pk_segment.proofs.building.plain_size.Given as goal

abbrev pub invariant-loop-d : goal.invariant-loop-d
invariant-loop-d l = record {
  sum : l.total + length (texts (docs_of (drop l.d-index l.documents))) ≡ segment_length (docs_of l.documents) 1;
  small : l.total ≤ 1073741844 + 8;
}
