-- The room is that of the first list.
use Rattle.std.proofs.Common.{arith}
use Rattle.pk_union.proofs.joining.both_into.Goals as goal

pub both-count-requires-clause-room : goal.both-count-requires-clause-room
both-count-requires-clause-room c = omega (arith, c.deref_mut.ensures.len, c.in_ok-resize.ensures.len)
