-- What is read ahead of an extent.
use Rattle.std.proofs.Common.{◌≡◌, ◌∙◌, ℕ, ◌+◌, ◌-◌, ◌≤◌, List, take, drop, sym, ap, arith}
use Rattle.std.proofs.lemmas.List.{drop-drop, drop-take, take-take}
use Rattle.pk_segment.specs.declared.ahead.Ahead.{Ahead}
use Rattle.pk_segment.specs.Ahead.{HasBytes, HoldsNone, HoldsOf}

within : (l : List ℕ) (held n from : ℕ) → from + n ≤ held
    → take n (drop from (take held l)) ≡ take n (drop from l)
within l held n from h = sym (drop-take from n (take held l)) ∙ ap (drop from) (take-take (from + n) held l h)
    ∙ drop-take from n l

-- a part of what is held
pub held_part : (bytes : List ℕ) (a : Ahead) (at n : ℕ) → HoldsOf bytes a → HasBytes at n a
    → take n (drop (at - a.at) a.buffer.items) ≡ take n (drop at bytes)
held_part bytes a at n holds has =
    let from : ℕ = at - a.at in
    let whole : a.at + from ≡ at = omega (arith, has.from) in
    let few : from + n ≤ a.held = omega (arith, has.from, has.to) in
    sym (within a.buffer.items a.held n from few) ∙ ap (λ (l : List ℕ). take n (drop from l)) holds.value
    ∙ within (drop a.at bytes) a.held n from few ∙ ap (take n) (drop-drop from a.at bytes)
    ∙ ap (λ (k : ℕ). take n (drop k bytes)) whole

-- where nothing is held, that stands anywhere
pub holds_none : (bytes : List ℕ) (a : Ahead) → HoldsNone a → HoldsOf bytes a
holds_none bytes a none = record {
  value = ap (λ (k : ℕ). take k a.buffer.items) none ∙ sym (ap (λ (k : ℕ). take k (drop a.at bytes)) none);
}
