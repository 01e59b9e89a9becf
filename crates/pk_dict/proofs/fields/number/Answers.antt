-- The number that is read is the one that the dictionary's bytes give.
use Rattle.std.proofs.Common.{arith, Ok, Err}
use Rattle.pk_dict.proofs.Shared.{number_past}
use Rattle.pk_dict.proofs.Parts.{length_bytes_at, number_lent}
use Rattle.pk_dict.proofs.fields.number.Goals as goal

pub returns-then-place-at-clause-value : goal.returns-then-place-at-clause-value
returns-then-place-at-clause-value g c h = number_past _ _ (omega (arith, length_bytes_at (g.S.ByteSource.content c.args.source.now) c.args.place c.requires.0))

pub returns-in-Ok-clause-value : goal.returns-in-Ok-clause-value
returns-in-Ok-clause-value g c h =
    number_lent _ _ c.min.result _ _ (Ok (c.in-Ok.n, c.in-Ok.taken)) (record { lies = c.requires.0; inside = omega arith; is = c.in_ok-piece.ensures.value h }) (omega arith) c.in-Ok.ensures.exact

pub returns-in-Err-clause-value : goal.returns-in-Err-clause-value
returns-in-Err-clause-value g c h =
    number_lent _ _ c.min.result _ _ (Err c.in-Err.field-0) (record { lies = c.requires.0; inside = omega arith; is = c.in_ok-piece.ensures.value h }) (omega arith) c.in-Err.ensures.exact
