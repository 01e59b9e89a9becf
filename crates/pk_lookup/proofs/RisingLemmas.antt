-- Numbers that rise in blocks of 128.
use Rattle.std.proofs.Common.{◌≡◌, ◌+◌, ◌-◌, ◌<◌, ◌≤◌, ℕ, suc, List, [], ◌∷◌, ◌++◌, length, slice_index, inl, inr, refl, sym, ap, subst, arith, length-append}
use Rattle.std.proofs.lemmas.Bool.{cases_lt}
use Rattle.std.proofs.lemmas.List.{get_or_append_left, get_or-append_right}
use Rattle.std.specs.List.Sorted.{IsStrictlyIncreasing}
use Rattle.pk_posting.specs.Posting.{IsPosting}
use Rattle.pk_lookup.specs.Blocks.{AreBlocks, RisesInBlocks}

-- no block
pub no_blocks : (xs : List ℕ) → xs ≡ [] → AreBlocks xs
no_blocks xs none = subst AreBlocks (sym none) (record { whole = refl; rise = λ i lt inside. absurd (omega arith) })

-- numbers that rise behind whole blocks
pub rises_behind : (xs ys : List ℕ) → AreBlocks xs → length ys ≤ 128 → IsStrictlyIncreasing ys → RisesInBlocks (xs ++ ys)
rises_behind xs ys are few up = λ i lt inside.
    let n = length xs in
    let long = length-append xs ys in
    elim (cases_lt (i + 1) n) [
      | inl before ↦ (
          let a = get_or_append_left xs ys 0 i (omega arith) in
          let b = get_or_append_left xs ys 0 (i + 1) before in
          let r = are.rise i before inside in
          omega (arith, a, b, r))
      | inr behind ↦ (
          let e : n ≤ i = omega (arith, are.whole, inside, behind) in
          let a = get_or-append_right xs ys n i 0 refl e in
          let b = get_or-append_right xs ys n (i + 1) 0 refl behind in
          let s : i + 1 - n ≡ i - n + 1 = omega arith in
          let r = up (i - n) (omega (arith, long, lt, e)) in
          omega (arith, a, b, r, ap (slice_index ys) s))
    ]

-- a block behind them
pub blocks_behind : (xs ys : List ℕ) → AreBlocks xs → length ys ≡ 128 → ((i : ℕ) → i < 127 → slice_index ys i < slice_index ys (i + 1)) → AreBlocks (xs ++ ys)
blocks_behind xs ys are whole up = record {
  whole = omega (arith, length-append xs ys, are.whole, whole);
  rise = rises_behind xs ys are (omega (arith, whole)) (λ k lt. up k (omega (arith, whole, lt)));
}

-- a posting list
pub posting_rises : (xs : List ℕ) → IsPosting xs → IsStrictlyIncreasing xs
posting_rises xs p k lt =
    let e : suc k ≡ k + 1 = omega arith in
    subst (λ i. slice_index (0 ∷ xs) i < slice_index xs (k + 1)) (sym e) (p.rising (k + 1) lt)
