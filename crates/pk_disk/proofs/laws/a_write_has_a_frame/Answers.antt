-- An image in the course of a write is one from before it, but for the range.
use Rattle.pk_disk.proofs.Images.{but_range as law}
use Rattle.pk_disk.proofs.laws.a_write_has_a_frame.Goals as goal

pub returns : goal.returns
returns c = λ bytes is_open at n image fits is. law bytes is_open at n image fits is
