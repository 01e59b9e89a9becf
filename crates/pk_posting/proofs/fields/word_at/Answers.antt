use Rattle.std.proofs.Common.{arith}
use Rattle.pk_posting.specs.Posting.{word}
use Rattle.pk_posting.proofs.fields.word_at.Goals as goal

pub returns : goal.returns
unfolding word
returns c = omega (arith, c.from_le_bytes.ensures)
