-- What is filled in and then confirmed is a part of what is shown.
use Rattle.std.proofs.Common.{◌≡◌, ◌⊎◌, inl, inr, ℕ, zero, suc, ◌+◌, ◌-◌, ◌<◌, ◌≤◌, ◌==◌, ◌||◌, Bool, true, false, List, length, get_or, take, drop, refl, sym, ◌∙◌, ap, arith, length-drop}
use Rattle.std.specs.Prelude.{slice_range, if◌then◌else◌}
use Rattle.std.proofs.lemmas.List.{ext_get_or, get_or-drop, get_or-take, length-take-le}
use Rattle.std.proofs.lemmas.Bool.{cases_Bool, eqb-true}
use Rattle.pk_disk.specs.declared.units.Extent.{Extent}
use Rattle.pk_manifest.specs.declared.half.Half.{Half}
use Rattle.pk_manifest.specs.Bodies.{gate_place, has_open_gate}
use Rattle.pk_manifest.specs.Evolves.{Evolves, covers, is_claimed, stamp}
use Rattle.pk_snapshot.specs.Shared.{Confirms, IsFilled}
use Rattle.pk_snapshot.specs.Shown.{IsShown, shown_bytes, shown_from}
use Rattle.pk_snapshot.proofs.ConfirmLemmas.{seen_claim, seen_gate}

length_from : (p n : ℕ) (shown : List Extent) (bytes : List ℕ) → length (shown_from p n shown bytes) ≡ n
length_from p zero shown bytes = refl
length_from p (suc n) shown bytes = ap suc (length_from (p + 1) n shown bytes)

pub length_shown : (n : ℕ) (shown : List Extent) (bytes : List ℕ) → length (shown_bytes n shown bytes) ≡ n
unfolding shown_bytes
length_shown n shown bytes = length_from 0 n shown bytes

get_from : (p n i : ℕ) (shown : List Extent) (bytes : List ℕ) → i < n → get_or (shown_from p n shown bytes) i 0 ≡ (if covers shown (p + i) then get_or bytes (p + i) 0 else 0)
get_from p zero i shown bytes lt = absurd (omega (arith, lt))
get_from p (suc n) zero shown bytes lt = let e : p ≡ p + 0 = omega arith in ap (λ (k : ℕ). if covers shown k then get_or bytes k 0 else 0) e
get_from p (suc n) (suc i) shown bytes lt =
    let e : p + 1 + i ≡ p + suc i = omega arith in
    get_from (p + 1) n i shown bytes (omega (arith, lt)) ∙ ap (λ (k : ℕ). if covers shown k then get_or bytes k 0 else 0) e

pub get_shown : (n p : ℕ) (shown : List Extent) (bytes : List ℕ) → p < n → get_or (shown_bytes n shown bytes) p 0 ≡ (if covers shown p then get_or bytes p 0 else 0)
unfolding shown_bytes
get_shown n p shown bytes lt = let e : 0 + p ≡ p = omega arith in get_from 0 n p shown bytes lt ∙ ap (λ (k : ℕ). if covers shown k then get_or bytes k 0 else 0) e

pub shown_yes : (t : Bool) (x : ℕ) → t ≡ true → (if t then x else 0) ≡ x
shown_yes t x is = rw is refl

pub shown_no : (t : Bool) (x : ℕ) → t ≡ false → (if t then x else 0) ≡ 0
shown_no t x is = rw is refl

one_of : (a b : Bool) → (a || b) ≡ true → (a ≡ true) ⊎ (b ≡ true)
one_of true b is = inl refl
one_of false b is = inr is

module _ (start old mid new : List ℕ) (half : Half) (g : ℕ) (gate : has_open_gate start half ≡ true) (stamp_is : stamp start half ≡ g) (before : Evolves start old) (last : Confirms mid new half g)
    (len : ℕ) (shown : List Extent) (is_shown : IsShown start half shown) (at : ℕ) (out : List ℕ) (fits : at + length out ≤ len) (filled : IsFilled old mid shown at out) where
  whole : List ℕ
  whole = shown_bytes len shown start

  byte_is : (i : ℕ) → i < length out → get_or out i 0 ≡ (if covers shown (at + i) then get_or start (at + i) 0 else 0)
  byte_is i lt = elim (cases_Bool (covers shown (at + i))) [
    | inl is_yes ↦
        let seen = (filled i lt).0 is_yes in
        let claim = one_of (at + i == gate_place half) (is_claimed start half (at + i)) (is_shown (at + i) is_yes) in
        let value : get_or out i 0 ≡ get_or start (at + i) 0 = elim claim [
          | inl place ↦ seen_gate start old mid new half g (at + i) (get_or out i 0) gate stamp_is before seen last (eqb-true _ _ place)
          | inr claimed ↦ seen_claim start old mid new half g (at + i) (get_or out i 0) gate stamp_is before seen last claimed
        ] in
        value ∙ sym (shown_yes (covers shown (at + i)) (get_or start (at + i) 0) is_yes)
    | inr is_no ↦ (filled i lt).1 is_no ∙ sym (shown_no (covers shown (at + i)) (get_or start (at + i) 0) is_no)
  ]

  -- the range that is read
  pub read_is : out ≡ slice_range (shown_bytes len shown start) at (at + length out)
  read_is =
      let total : length (shown_bytes len shown start) ≡ len = length_shown len shown start in
      let count : at + length out - at ≡ length out = omega arith in
      let same : take (at + length out - at) (drop at (shown_bytes len shown start)) ≡ take (length out) (drop at (shown_bytes len shown start)) =
      ap (λ (k : ℕ). take k (drop at (shown_bytes len shown start))) count in
      let long : length (take (length out) (drop at (shown_bytes len shown start))) ≡ length out =
      length-take-le (length out) (drop at (shown_bytes len shown start)) (omega (arith, fits, total, length-drop at (shown_bytes len shown start))) in
      ext_get_or 0 out (take (length out) (drop at (shown_bytes len shown start))) (sym long)
      (λ i lt. byte_is i lt ∙ sym (get_shown len (at + i) shown start (omega (arith, lt, fits)))
      ∙ sym (get_or-take (length out) (drop at (shown_bytes len shown start)) i 0 lt ∙ get_or-drop at (shown_bytes len shown start) i 0))
      ∙ sym same
