-- What windows hold is a part of the source, and a part of what they hold is lent.
use Rattle.std.proofs.Common.{◌≡◌, ◌≤◌, ◌+◌, ◌-◌, ◌∙◌, ℕ, List, length, take, drop, sym, ap, arith}
use Rattle.std.proofs.lemmas.List.{drop-take, take-take, drop-drop}
use Rattle.pk_dict.specs.declared.windows.Window.{Window}
use Rattle.pk_dict.specs.Windows.{Holds, IsPartOf}

within : (l : List ℕ) (held n from : ℕ) → from + n ≤ held → take n (drop from (take held l)) ≡ take n (drop from l)
within l held n from h = sym (drop-take from n (take held l)) ∙ ap (drop from) (take-take (from + n) held l h) ∙ drop-take from n l

-- a part of what a window holds
pub held_part : (honest : Type 0) (content : List ℕ) (w : Window) (at n : ℕ) → IsPartOf honest content w → Holds w at n → honest → take n (drop (at - w.at) w.buffer) ≡ take n (drop at content)
held_part honest content w at n part holds h =
    let from : ℕ = at - w.at in
    let whole : w.at + from ≡ at = omega (arith, holds.after) in
    let few : from + n ≤ w.held = omega (arith, holds.after, holds.before) in
    sym (within w.buffer w.held n from few) ∙ ap (λ (l : List ℕ). take n (drop from l)) (part.value h)
    ∙ within (drop w.at content) w.held n from few ∙ ap (take n) (drop-drop from w.at content) ∙ ap (λ (k : ℕ). take n (drop k content)) whole

-- it stays one where the source keeps its bytes
pub still_part : (honest : Type 0) (content content' : List ℕ) (w : Window) → IsPartOf honest content w → (honest → content' ≡ content) → length content' ≡ length content → IsPartOf honest content' w
still_part honest content content' w part same size = record {
  few = part.few;
  inside = omega (arith, part.inside, size);
  value = λ h. part.value h ∙ ap (λ (l : List ℕ). take w.held (drop w.at l)) (sym (same h));
}

-- nothing is held, so it is a part
pub empty_part : (honest : Type 0) (content : List ℕ) (w : Window) → w.held ≡ 0 → w.at ≤ length content → IsPartOf honest content w
empty_part honest content w none inside = record {
  few = omega (arith, none);
  inside = omega (arith, none, inside);
  value = λ _. ap (λ (k : ℕ). take k w.buffer) none ∙ sym (ap (λ (k : ℕ). take k (drop w.at content)) none);
}
