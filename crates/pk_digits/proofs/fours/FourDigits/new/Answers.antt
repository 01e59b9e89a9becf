-- The digits of one number more.
use Rattle.std.proofs.Common.{◌≡◌, ◌∙◌, ◌+◌, ℕ, List, [], ◌∷◌, ◌++◌, get_or, length, inl, inr, sym, ap, arith}
use Rattle.std.proofs.lemmas.Bool.{cases_lt}
use Rattle.std.proofs.lemmas.List.{get_or_append_left, get_or_push, length_push, take_all}
use Rattle.pk_digits.specs.Digits.{four_digits}
use Rattle.pk_digits.specs.Fours.{AreFours}
use Rattle.pk_digits.proofs.fours.FourDigits.new.Goals as goal

four_more : (n : ℕ) (table now : List (List ℕ)) (text : List ℕ) → AreFours n table → now ≡ table ++ text ∷ [] → text ≡ four_digits n → AreFours (n + 1) now
four_more n table now text are put is = record {
  size = let s = ap (λ (t : List (List ℕ)). length t) put in omega (arith, s, length_push table text, are.size);
  each = λ k lt. ap (λ (t : List (List ℕ)). get_or t k []) put ∙ elim (cases_lt k n) [
    | inl low ↦ get_or_append_left table (text ∷ []) [] k (omega (arith, are.size, low)) ∙ are.each k low
    | inr up ↦ (let e : k ≡ n = omega (arith, lt, up) in get_or_push table text [] k (are.size ∙ sym e) ∙ is ∙ ap four_digits (sym e))
  ];
}

pub loop-number-preserved : goal.loop-number-preserved
loop-number-preserved c =
    let text = c.write_four.new.out in
    let four = c.write_four.ensures in
    four_more c.loop-number.number c.loop-number.digits.items _ text c.loop-number.invariant c.in_ok-push.ensures.items
    (sym (take_all c.write_four.result text (omega (arith, four.size, four.end))) ∙ four.written)
