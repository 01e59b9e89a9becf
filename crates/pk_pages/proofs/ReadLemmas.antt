-- Reads by their parts: what they give, when they make no call below, and what they leave kept.
use Rattle.std.proofs.Common.{◌≡◌, ◌⊎◌, inl, inr, ⊎_elim, ℕ, suc, ◌<◌, ◌≤◌, ◌+◌, ◌-◌, ◌*◌, ◌/◌, ◌%◌, ◌++◌, Bool, List, length, take, drop, min, sym, ◌∙◌, ap, subst, arith}
use Rattle.std.specs.Prelude.{IsTrue, slice_range, vec_capacity}
use Rattle.std.proofs.Math.Nat.{mod-eq_of_lt, mod_self, suc-mod}
use Rattle.std.proofs.Math.Numerals.{add-one}
use Rattle.std.proofs.lemmas.Bool.{cases_eq}
use Rattle.std.proofs.lemmas.List.{drop-take, take-take, drop-drop, take-append-drop}
use Rattle.pk_pages.specs.declared.slots.Slot.{Slot}
use Rattle.pk_pages.specs.Pages.{page_bytes, slot_for, IsIn, IsKept, IsHit, HasNoRoom, KeepsOthers, IsUnkept, IsReadAgain}

-- two parts that follow one another
pub two_parts : (bytes first second : List ℕ) (at k m n : ℕ) → first ≡ slice_range bytes at (at + k) → second ≡ slice_range bytes (at + k) (at + k + m) → k + m ≡ n → first ++ second ≡ slice_range bytes at (at + n)
two_parts bytes first second at k m n is_first is_second whole =
    let xs = drop at bytes in
    let a : at + k - at ≡ k = omega arith in
    let b : at + k + m - (at + k) ≡ m = omega arith in
    let c : at + n - at ≡ n = omega arith in
    let front : first ≡ take k (take n xs) = is_first ∙ ap (λ (j : ℕ). take j xs) a ∙ sym (take-take k n xs (omega (arith, whole))) in
    let back : second ≡ drop k (take n xs) = is_second ∙ ap (λ (j : ℕ). take j (drop (at + k) bytes)) b ∙ ap (take m) (sym (drop-drop k at bytes)) ∙ sym (drop-take k m xs) ∙ ap (λ (j : ℕ). drop k (take j xs)) whole in
    ap (λ (x : List ℕ). x ++ second) front ∙ ap (λ (x : List ℕ). take k (take n xs) ++ x) back ∙ take-append-drop k (take n xs) ∙ ap (λ (j : ℕ). take j xs) (sym c)

-- each part of a read that makes no call below, within one page, is kept
pub hit_part : (succeeded : Bool) (slots : List Slot) (at n : ℕ) → IsHit succeeded slots at n → (a m : ℕ) → at ≤ a → 0 < m → a + m ≤ at + n → a % page_bytes + m ≤ page_bytes → IsKept slots (a / page_bytes) (a % page_bytes + m)
hit_part succeeded slots at n hit a m above some below within =
    let kept = hit.kept (a / page_bytes) (omega arith) (omega arith) in
    (kept.0, λ d. let is = kept.1 d in (is.0, omega (arith, is.1)))

-- after a read within one page
pub again_one : (succeeded : Bool) (slots : List Slot) (at n : ℕ) → 0 < n → at % page_bytes + n ≤ page_bytes → IsTrue succeeded → IsKept slots (at / page_bytes) (at % page_bytes + n) ⊎ HasNoRoom slots (at / page_bytes) → IsReadAgain succeeded slots at n
again_one succeeded slots at n some within is_true is = record {
  succeeded = is_true;
  kept = λ p above below.
      let here : at / page_bytes ≡ p = omega (arith, above, below) in
      subst (λ (q : ℕ). IsKept slots q (min page_bytes (at + n - page_bytes * q)) ⊎ IsUnkept slots q (at + n)) here
      (⊎_elim
      (λ kept. inl (kept.0, λ d. let part = kept.1 d in (part.0, omega (arith, part.1))))
      (λ wanting. inr (inl wanting))
      is);
}

-- where there are two slots or places, neighbours have different ones
pub neighbours_apart : (p m : ℕ) → 2 ≤ m → p % m ≡ (p + 1) % m → ⊥
neighbours_apart p m two same =
    let r = p % m in
    let next : r ≡ suc r % m = same ∙ ap (λ (k : ℕ). k % m) (add-one p) ∙ suc-mod p m in
    ⊎_elim
    (λ last. let none : r ≡ 0 = next ∙ ap (λ (k : ℕ). k % m) last ∙ mod_self m in omega (arith, none, last, two))
    (λ inside.
    let lt : suc r < m = omega (arith, inside, two) in
    omega (arith, next ∙ mod-eq_of_lt lt))
    (cases_eq (suc r) m)

-- a page that was kept stays so as one is read that has another slot
pub kept_beside : (slots slots' : List Slot) (p q n : ℕ) → KeepsOthers slots slots' p → (q % length slots ≡ p % length slots → ⊥) → IsKept slots q n → IsKept slots' q n
kept_beside slots slots' p q n others apart kept = (
  omega (arith, others.count, kept.0),
  λ d.
      let same : slot_for slots q d ≡ slot_for slots' q d = sym (others.same q d apart) in
      (subst (λ (s : Slot). IsIn s q) same (kept.1 d).0, subst (λ (s : Slot). n ≤ length s.bytes.items) same (kept.1 d).1),
)

-- a page that was kept stays so as the next one is read, but where there is one slot alone
still_kept : (slots slots' : List Slot) (p m before end : ℕ) → KeepsOthers slots slots' (p + 1) → page_bytes ≤ m → before ≤ page_bytes * p + page_bytes → page_bytes * p + page_bytes < end → IsKept slots p m ⊎ IsUnkept slots p before → IsKept slots' p (min page_bytes (end - page_bytes * p)) ⊎ IsUnkept slots' p end
still_kept slots slots' p m before end others whole within goes_on is = ⊎_elim
    (λ one. inr (inr (others.count ∙ one, goes_on)))
    (λ other. ⊎_elim
    (λ kept.
    let two : 2 ≤ length slots = omega (arith, other, kept.0) in
    let stays = kept_beside slots slots' (p + 1) p m others (neighbours_apart p (length slots) two) kept in
    inl (stays.0, λ d. let is = stays.1 d in (is.0, omega (arith, is.1, whole))))
    (λ unkept. ⊎_elim
    (λ wanting. inr (inl (λ d some.
    let any : 0 < length slots = omega (arith, some, others.count) in
    let two : 2 ≤ length slots = omega (arith, other, any) in
    let same : slot_for slots' p d ≡ slot_for slots p d = others.same p d (neighbours_apart p (length slots) two) in
    subst (λ (s : Slot). vec_capacity s.bytes < page_bytes) (sym same) (wanting d any))))
    (λ gone. absurd (let no : page_bytes * p + page_bytes < before = gone.1 in omega (arith, no, within)))
    unkept)
    is)
    (cases_eq (length slots) 1)

-- after a read of two parts, of which the first ends its page
pub again_two : (succeeded succeeded' : Bool) (slots slots' : List Slot) (at next front back n : ℕ) → IsReadAgain succeeded slots at front → IsReadAgain succeeded' slots' next back → KeepsOthers slots slots' (next / page_bytes) → next ≡ at + front → front + at % page_bytes ≡ page_bytes → 0 < back → front + back ≡ n → IsReadAgain succeeded' slots' at n
again_two succeeded succeeded' slots slots' at next front back n first second others follows ends some whole =
    let same : next + back ≡ at + n = omega (arith, follows, whole) in
    let page = at / page_bytes in
    let neighbour : next / page_bytes ≡ page + 1 = omega (arith, follows, ends) in
    record {
      succeeded = second.succeeded;
      kept = λ p above below. ⊎_elim
          (λ here. subst (λ (q : ℕ). IsKept slots' q (min page_bytes (at + n - page_bytes * q)) ⊎ IsUnkept slots' q (at + n)) (sym here)
          (still_kept slots slots' page (min page_bytes (at + front - page_bytes * page)) (at + front) (at + n)
          (subst (KeepsOthers slots slots') neighbour others) (omega (arith, ends)) (omega (arith, ends)) (omega (arith, ends, some, whole))
          (first.kept page (omega (arith, ends)) (omega arith))))
          (λ elsewhere. subst (λ (end : ℕ). IsKept slots' p (min page_bytes (end - page_bytes * p)) ⊎ IsUnkept slots' p end) same
          (second.kept p (omega (arith, above, same)) (omega (arith, below, elsewhere, follows, ends))))
          (cases_eq p page);
    }
