-- A piece that was lent says what the dictionary's bytes say, and has the first number, or the end.
use Rattle.std.proofs.Common.{arith, refl, subst, ◌≡◌, ◌+◌, List, ℕ, Ok, Err}
use Rattle.pk_dict.specs.Place.{bytes_at}
use Rattle.pk_dict.specs.Reading.{Gives, number_at, step_at, head_at}
use Rattle.pk_dict.proofs.Parts.{length_bytes_at, number_lent}
use Rattle.pk_dict.proofs.Pieces.{lent_piece}
use Rattle.pk_dict.proofs.Shared.{number_past}
use Rattle.pk_dict.proofs.steps.first_step.Goals as goal

pub returns-then-place-at-clause-value : goal.returns-then-place-at-clause-value
unfolding step_at head_at
returns-then-place-at-clause-value g c h =
    rw (number_past (bytes_at (g.S.ByteSource.content c.args.source.now) c.args.place) c.args.at (omega (arith, length_bytes_at (g.S.ByteSource.content c.args.source.now) c.args.place c.requires.0, c.if-place-at.true))) refl

pub returns-in-Some-clause-value : goal.returns-in-Some-clause-value
returns-in-Some-clause-value g c h =
    c.in-Some.ensures.value _ (lent_piece _ c.args.place c.min.result c.args.at _ (record { lies = c.requires.0; inside = omega arith; is = c.in_ok-piece.ensures.value h }) c.in_ok-piece.ensures.lent)

pub returns-in_default-take-clause-value : goal.returns-in_default-take-clause-value
unfolding step_at head_at
returns-in_default-take-clause-value g c h =
    rw (number_lent _ c.args.place c.min.result c.args.at _ (Err c.in_default-take.field-0) (record { lies = c.requires.0; inside = omega arith; is = c.in_ok-piece.ensures.value h }) (omega arith) c.in_default-take.ensures.exact) refl

pub returns-clause-value : goal.returns-clause-value
returns-clause-value g c h =
    let first = number_lent _ c.args.place c.min.result c.args.at _ (Ok (c.in-Ok.size, c.in-Ok.taken)) (record { lies = c.requires.0; inside = omega arith; is = c.in_ok-piece.ensures.value h }) (omega arith) c.in-Ok.ensures.exact in
    subst (λ (l : List ℕ). number_at (bytes_at l c.args.place) c.args.at ≡ Ok (c.in-Ok.size, c.args.at + c.in-Ok.taken) → Gives c.far_first.result (step_at (bytes_at l c.args.place) c.args.term.now 0 0 c.args.at))
    (c.bytes.follows.holds-at-none.same h) (c.far_first.ensures.value h c.args.at) first
