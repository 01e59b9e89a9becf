-- The offset that is read is the one at that place of the dictionary.
use Rattle.std.proofs.Common.{arith, ◌∙◌, ap, sym, Ok}
use Rattle.std.specs.Int.{w32, from_le_bytes}
use Rattle.pk_dict.proofs.Parts.{length_bytes_at, offset_lent, offset_past, four}
use Rattle.pk_dict.proofs.fields.offset.Goals.{then-place-lt4-via-then-place-lt4, then-place-lt4-via-else-place-lt4+then-place-at}
use Rattle.pk_dict.proofs.fields.offset.Goals as goal

pub returns-then-place-lt4-clause-value : goal.returns-then-place-lt4-clause-value
returns-then-place-lt4-clause-value g c h =
    let size = length_bytes_at (g.S.ByteSource.content c.args.source.now) c.args.place c.requires.0 in
    elim c.then-place-lt4.branch [
      | then-place-lt4-via-then-place-lt4 w ↦ offset_past _ _ (omega (arith, size))
      | then-place-lt4-via-else-place-lt4+then-place-at w ↦ offset_past _ _ (omega (arith, size))
    ]

pub returns-clause-value : goal.returns-clause-value
returns-clause-value g c h =
    offset_lent _ _ _ _ (record { lies = c.requires.0; inside = omega arith; is = c.in_ok-field.ensures.value h })
    ∙ ap Ok (sym (c.from_le_bytes.ensures ∙ ap (from_le_bytes w32) (four _ c.in_ok-field.ensures.lent)))
