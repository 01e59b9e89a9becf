-- The byte after what both share decides, or the end of one.
use Rattle.std.proofs.Common.{arith}
use Rattle.pk_dict.proofs.Order.{less_end, less_byte, less_over}
use Rattle.pk_dict.proofs.compare.is_less.Goals as goal

pub returns-then-n-a : goal.returns-then-n-a
returns-then-n-a c = less_end _ _ _ c.shared_front-n.ensures.value c.if-n-a.true c.if-n-b.true

pub returns-else-n-a : goal.returns-else-n-a
returns-else-n-a c = less_byte _ _ _ c.shared_front-n.ensures.value (omega (arith, c.shared_front-n.ensures.most, c.if-n-a.false)) c.if-n-b.true

pub returns-else-n-b : goal.returns-else-n-b
returns-else-n-b c = less_over _ _ _ c.shared_front-n.ensures.value c.if-n-b.false
