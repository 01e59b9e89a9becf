-- What was lent is what stands in the dictionary.
use Rattle.std.proofs.Common.{arith, sym, ap, subst, ◌∙◌, ◌++◌, List, ℕ}
use Rattle.pk_dict.specs.Place.{bytes_at}
use Rattle.pk_dict.specs.Reading.{IsPieceAt}
use Rattle.pk_dict.proofs.Pieces.{lent_piece}
use Rattle.pk_dict.proofs.ahead.Held.read.Goals as goal

pub returns-clause-value : goal.returns-clause-value
returns-clause-value g c h =
    let B : List ℕ = bytes_at (g.S.ByteSource.content c.args.source.now) c.args.place in
    let all = c.in_ok-extend_from_slice.ensures.items ∙ ap (λ (l : List ℕ). l ++ c.in_ok-piece.piece.now) c.clear.ensures.items in
    subst (λ (l : List ℕ). IsPieceAt B c.args.at l) (sym all)
    (lent_piece _ c.args.place c.min.result c.args.at c.in_ok-piece.piece.now (record { lies = c.requires.lies.0; inside = omega arith; is = c.in_ok-piece.ensures.value h }) c.in_ok-piece.ensures.lent)
