-- The numbers so far are those of the first entries.
use Rattle.std.proofs.Common.{◌≡◌}
use Rattle.pk_segment.specs.Fields.{entry_numbers}
use Rattle.pk_segment.proofs.segment.Segment.numbers.Given as goal

abbrev pub invariant-loop-i : goal.invariant-loop-i
invariant-loop-i g l =
    g.S.ByteSource.honest → l.out.items ≡ entry_numbers (g.S.ByteSource.content l.fn.source) l.i
