-- The texts so far stand in the bytes so far.
use Rattle.std.proofs.Common.{◌+◌, ◌≤◌, take}
use Rattle.std.specs.Prelude.{All}
use Rattle.pk_merge.specs.declared.texts.TheConstants.{SPAN_BYTES}
use Rattle.pk_merge.specs.Spans.{StandsIn}
use Rattle.pk_merge.proofs.texts.span_of.Given as goal

abbrev pub invariant-loop-i : goal.invariant-loop-i
invariant-loop-i l = record {
  short : l.bytes ≤ SPAN_BYTES;
  inside : l.from + l.bytes ≤ l.disk_bytes;
  near : All (StandsIn l.from (l.from + l.bytes)) (take l.i l.documents);
}
