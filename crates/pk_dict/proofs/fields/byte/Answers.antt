-- The byte that is read is the one at that place of the dictionary.
use Rattle.std.proofs.Common.{arith}
use Rattle.pk_dict.proofs.Parts.{length_bytes_at, byte_lent, byte_past}
use Rattle.pk_dict.proofs.fields.byte.Goals as goal

pub returns-then-place-at-clause-value : goal.returns-then-place-at-clause-value
returns-then-place-at-clause-value g c h = byte_past _ _ (omega (arith, length_bytes_at (g.S.ByteSource.content c.args.source.now) c.args.place c.requires.0))

pub returns-clause-value : goal.returns-clause-value
returns-clause-value g c h = byte_lent _ _ _ _ (record { lies = c.requires.0; inside = omega arith; is = c.in_ok-piece.ensures.value h })
