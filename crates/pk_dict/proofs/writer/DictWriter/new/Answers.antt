-- A new writer has nothing.
use Rattle.std.proofs.Common.{refl, arith}
use Rattle.std.specs.List.Sorted.{IsStrictlySortedBy}
use Rattle.pk_dict.specs.Dictionary.{groups, spelling}
use Rattle.pk_dict.proofs.writer.DictWriter.new.Goals as goal

pub returns : goal.returns
unfolding groups spelling IsStrictlySortedBy
returns c = record { rising = tt; fits = tt; size = omega arith; starts = c.new.ensures.items; body = c.new-2.ensures.items; last = c.new-3.ensures.items; count = refl }
