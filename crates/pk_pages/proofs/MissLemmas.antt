-- Pages that are noted as they are missed, and stay noted or kept as the page beside them is read.
use Rattle.std.proofs.Common.{◌≡◌, ◌⊎◌, inl, inr, ⊎_elim, ℕ, ◌<◌, ◌≤◌, ◌+◌, ◌-◌, ◌*◌, ◌/◌, ◌%◌, List, length, get_or, replicate, min, sym, ◌∙◌, ap, subst, arith}
use Rattle.std.proofs.lemmas.Bool.{cases_eq}
use Rattle.std.proofs.lemmas.List.{length-replicate, get_or-replicate}
use Rattle.pk_pages.specs.declared.slots.Slot.{Slot}
use Rattle.pk_pages.specs.Pages.{page_bytes, IsKept, KeepsOthers}
use Rattle.pk_pages.specs.Missed.{most_noted, IsNoted, KeepsNotes, IsKeptOrNoted, AreToBeKept, AreKeptOrNoted}
use Rattle.pk_pages.proofs.ReadLemmas.{neighbours_apart, kept_beside}

-- at places that all have a number past that of any page none is noted
pub none_noted : (missed : List ℕ) (n most : ℕ) → missed ≡ replicate n most → (p : ℕ) → p < most → 0 < length missed → IsNoted missed p → ⊥
none_noted missed n most is p lt some noted =
    let long : length missed ≡ n = ap length is ∙ length-replicate n most in
    let place : p % length missed < n = omega (arith, some, long) in
    let here : get_or missed (p % length missed) 0 ≡ most = ap (λ (xs : List ℕ). get_or xs (p % length missed) 0) is ∙ get_or-replicate n (p % length missed) most 0 place in
    let number : get_or missed (p % length missed) 0 ≡ p = noted some in
    omega (arith, here, number, lt)

-- neighbours have different places
apart_after : (missed : List ℕ) (p : ℕ) → (0 < length missed → length missed ≡ most_noted) → 0 < length missed → (p + 1) % length missed ≡ p % length missed → ⊥
apart_after missed p places some same =
    let all : length missed ≡ most_noted = places some in
    neighbours_apart p (length missed) (omega (arith, all)) (sym same)

-- a page that is noted stays so as one is missed that has another place
stays_noted : (missed missed' : List ℕ) (p q : ℕ) → KeepsNotes missed missed' p → (0 < length missed → q % length missed ≡ p % length missed → ⊥) → IsNoted missed q → IsNoted missed' q
stays_noted missed missed' p q keeps apart noted some =
    let any : 0 < length missed = omega (arith, some, keeps.count) in
    ap (λ (n : ℕ). get_or missed' (q % n) 0) keeps.count ∙ keeps.same q (apart any) ∙ noted any

-- the first part of a read that is to keep its pages
pub first_part : (slots : List Slot) (missed : List ℕ) (at n front : ℕ) → AreToBeKept slots missed at n → 0 < front → front ≤ n → at % page_bytes + front ≤ page_bytes → IsKeptOrNoted slots missed (at / page_bytes) (at % page_bytes + front)
first_part slots missed at n front to_be some part within = ⊎_elim
    (λ noted. inr noted)
    (λ kept. inl (kept.0.0, λ d. let is = kept.0.1 d in (is.0, omega (arith, is.1))))
    (to_be (at / page_bytes) (omega arith) (omega arith))

-- the second part, on the page after the first, which has been read
pub second_part : (slots slots' : List Slot) (missed missed' : List ℕ) (at next n back : ℕ) → AreToBeKept slots missed at n → (0 < length missed → length missed ≡ most_noted) → KeepsOthers slots slots' (at / page_bytes) → KeepsNotes missed missed' (at / page_bytes) → next ≡ at + (page_bytes - at % page_bytes) → 0 < back → next + back ≡ at + n → back ≤ page_bytes → IsKeptOrNoted slots' missed' (next / page_bytes) (next % page_bytes + back)
second_part slots slots' missed missed' at next n back to_be places others notes follows some ends within =
    let page = at / page_bytes in
    let neighbour : page + 1 ≡ next / page_bytes = omega (arith, follows) in
    let long : min page_bytes (at + n - page_bytes * (page + 1)) ≡ next % page_bytes + back = omega (arith, follows, ends, within) in
    subst (λ (q : ℕ). IsKeptOrNoted slots' missed' q (next % page_bytes + back)) neighbour (⊎_elim
    (λ noted. inr (stays_noted missed missed' page (page + 1) notes (apart_after missed page places) noted))
    (λ kept.
    let two : 2 ≤ length slots = ⊎_elim (λ one. let first : page_bytes * (page + 1) ≤ at = kept.1 one in absurd (omega arith)) (λ other. omega (arith, other, kept.0.0)) (cases_eq (length slots) 1) in
    inl (subst (IsKept slots' (page + 1)) long (kept_beside slots slots' page (page + 1) _ others (λ same. neighbours_apart page (length slots) two (sym same)) kept.0)))
    (to_be (page + 1) (omega (arith, follows, ends, some)) (omega arith)))

-- after a read of two parts, of which the first ends its page
pub noted_two : (slots slots' : List Slot) (missed missed' : List ℕ) (at next front back n : ℕ) → IsKeptOrNoted slots missed (at / page_bytes) (at % page_bytes + front) → IsKeptOrNoted slots' missed' (next / page_bytes) (next % page_bytes + back) → (0 < length missed → length missed ≡ most_noted) → KeepsOthers slots slots' (next / page_bytes) → KeepsNotes missed missed' (next / page_bytes) → next ≡ at + front → front + at % page_bytes ≡ page_bytes → 0 < back → front + back ≡ n → n ≤ page_bytes → AreKeptOrNoted slots' missed' at n
noted_two slots slots' missed missed' at next front back n first second places others notes follows ends some whole few = λ p above below.
    let page = at / page_bytes in
    let neighbour : next / page_bytes ≡ page + 1 = omega (arith, follows, ends) in
    ⊎_elim
    (λ here. subst (λ (q : ℕ). IsKeptOrNoted slots' missed' q (min page_bytes (at + n - page_bytes * q)) ⊎ ((length slots' ≡ 1) × (page_bytes * q + page_bytes < at + n))) (sym here)
    (⊎_elim
    (λ one. inr (others.count ∙ one, omega (arith, ends, some, whole)))
    (λ other.
    let long : at % page_bytes + front ≡ min page_bytes (at + n - page_bytes * page) = omega (arith, ends, some, whole) in
    inl (⊎_elim
    (λ kept.
    let two : 2 ≤ length slots = omega (arith, other, kept.0) in
    inl (subst (IsKept slots' page) long (kept_beside slots slots' (page + 1) page _ (subst (KeepsOthers slots slots') neighbour others) (neighbours_apart page (length slots) two) kept)))
    (λ noted. inr (stays_noted missed missed' (page + 1) page (subst (KeepsNotes missed missed') neighbour notes) (λ any same. apart_after missed page places any (sym same)) noted))
    first))
    (cases_eq (length slots) 1)))
    (λ elsewhere.
    let there : next / page_bytes ≡ p = omega (arith, above, below, elsewhere, follows, ends, some, whole, few) in
    let long : next % page_bytes + back ≡ min page_bytes (at + n - page_bytes * (next / page_bytes)) = omega (arith, follows, ends, whole, few) in
    inl (subst (λ (q : ℕ). IsKeptOrNoted slots' missed' q (min page_bytes (at + n - page_bytes * q))) there (subst (IsKeptOrNoted slots' missed' (next / page_bytes)) long second)))
    (cases_eq p page)
