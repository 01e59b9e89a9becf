-- A joined place begins no word, and is passed; the others end the walk.
use Rattle.std.proofs.Common.{◌≡◌, ◌∙◌, inl, inr, true, sym, subst, arith}
use Rattle.std.proofs.lemmas.Bool.{both_ways, cases_order}
use Rattle.pk_pieces.specs.Pieces.{joins_at}
use Rattle.pk_pieces.proofs.passing.next_start.Goals as goal

pub joined-preserved : goal.joined-preserved
joined-preserved c =
    let s = c.args.bytes.now in
    let at = c.joined.at in
    let next = c.next_candidate-at-in-joined in
    let joined : joins_at s at ≡ true = sym c.is_joined.ensures ∙ c.if-is_joined.true in
    record {
      low = omega arith;
      high = next.ensures.high;
      none = λ k low high begins stands.
          elim (cases_order k at) [
            | inl here ↦
                elim begins [
                  | inl first ↦ absurd (omega (arith, here, first, c.joined-test.true))
                  | inr broken ↦ both_ways _ broken (subst (λ n. joins_at s n ≡ true) (sym here) joined)
                ]
            | inr (inl before) ↦ c.joined.invariant.none k low before begins stands
            | inr (inr behind) ↦ next.ensures.none k (omega (arith, behind)) high stands
          ];
    }
