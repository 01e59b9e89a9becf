-- What a source lends of a dictionary's bytes.
use Rattle.std.proofs.Common.{◌≡◌, ◌∷◌, [], ◌≤◌, ◌<◌, ◌+◌, ◌-◌, ◌∙◌, ℕ, List, length, take, drop, min, sym, ap, refl, arith, get_or, inl, inr, Result, Ok, Err}
use Rattle.std.specs.Int.{w32, from_le_bytes}
use Rattle.std.proofs.lemmas.Bool.{cases_lt, lt-ltb, le-ltb}
use Rattle.std.proofs.lemmas.List.{take_all, drop-take, take-take, drop-drop, length-take, length-drop, drop_more}
use Rattle.pk_vbyte.specs.declared.variable.VFault.{VFault}
use Rattle.pk_vbyte.specs.VariableByte.{taken}
use Rattle.pk_vbyte.proofs.CallerLemmas.{taken_five}
use Rattle.pk_posting.specs.declared.source.SourceFault.TheVariants as faults
use Rattle.pk_dict.specs.declared.entry.DictPlace.{DictPlace}
use Rattle.pk_dict.specs.Place.{bytes_at}
use Rattle.pk_dict.specs.Reading.{after, number_at, byte_at, offset_at}

pub length_bytes_at : (content : List ℕ) (place : DictPlace) → place.at + place.bytes ≤ length content → length (bytes_at content place) ≡ place.bytes
unfolding bytes_at
length_bytes_at content place h = omega (arith, length-take place.bytes (drop place.at content), length-drop place.at content)

pub part_at : (content : List ℕ) (place : DictPlace) (n at : ℕ) → at + n ≤ place.bytes → take n (drop at (bytes_at content place)) ≡ take n (drop (place.at + at) content)
unfolding bytes_at
part_at content place n at h =
    sym (drop-take at n (take place.bytes (drop place.at content))) ∙ ap (drop at) (take-take (at + n) place.bytes (drop place.at content) h)
    ∙ drop-take at n (drop place.at content) ∙ ap (take n) (drop-drop at place.at content)

-- a piece as it was lent
pub record Lent (content : List ℕ) (place : DictPlace) (n at : ℕ) (piece : List ℕ) : Type 0 where
  pub lies : place.at + place.bytes ≤ length content
  pub inside : at + n ≤ place.bytes
  pub is : piece ≡ take n (drop (place.at + at) content)

pub lent_part : (content : List ℕ) (place : DictPlace) (n at : ℕ) (piece : List ℕ) → Lent content place n at piece → take n (drop at (bytes_at content place)) ≡ piece
lent_part content place n at piece l = part_at content place n at l.inside ∙ sym l.is

-- five bytes, or all up to the end, decide what number is taken
taken_front : (n : ℕ) (bytes : List ℕ) → min (length bytes) 5 ≤ n → taken (take n bytes) ≡ taken bytes
taken_front n bytes h = elim (cases_lt n 5) [
  | inl less ↦ ap taken (take_all n bytes (omega arith))
  | inr more ↦ sym (taken_five (take n bytes)) ∙ ap taken (take-take 5 n bytes (omega arith)) ∙ taken_five bytes
]

pub number_lent : (content : List ℕ) (place : DictPlace) (n at : ℕ) (piece : List ℕ) (r : Result (ℕ × ℕ) VFault) → Lent content place n at piece → min (place.bytes - at) 5 ≤ n
    → r ≡ taken piece → number_at (bytes_at content place) at ≡ after at r
unfolding number_at
number_lent content place n at piece r l e t =
    let B = bytes_at content place in
    let size : length (drop at B) ≡ place.bytes - at = omega (arith, length-drop at B, length_bytes_at content place l.lies) in
    ap (after at) (sym (taken_front n (drop at B) (omega (arith, size))) ∙ ap taken (lent_part content place n at piece l) ∙ sym t)

pub byte_lent : (content : List ℕ) (place : DictPlace) (at : ℕ) (piece : List ℕ) → Lent content place 1 at piece → byte_at (bytes_at content place) at ≡ Ok (get_or piece 0 0)
unfolding byte_at
byte_lent content place at piece l =
    let B = bytes_at content place in
    let size = length_bytes_at content place l.lies in
    let inside : at < length B = omega (arith, size, l.inside) in
    let first : get_or (take 1 (drop at B)) 0 0 ≡ get_or B at 0 = ap (λ (s : List ℕ). get_or (take 1 s) 0 0) (drop_more B at 0 inside) in
    rw (lt-ltb at (length B) inside) (ap Ok (sym first ∙ ap (λ (s : List ℕ). get_or s 0 0) (lent_part content place 1 at piece l)))

pub offset_lent : (content : List ℕ) (place : DictPlace) (at : ℕ) (piece : List ℕ) → Lent content place 4 at piece → offset_at (bytes_at content place) at ≡ Ok (from_le_bytes w32 piece)
unfolding offset_at
offset_lent content place at piece l =
    let B = bytes_at content place in
    let size = length_bytes_at content place l.lies in
    let inside : at + 4 ≤ length B = omega (arith, size, l.inside) in
    rw (le-ltb (length B) (at + 4) inside) (ap (λ (s : List ℕ). Ok (from_le_bytes w32 s)) (lent_part content place 4 at piece l))

pub byte_past : (bytes : List ℕ) (at : ℕ) → length bytes ≤ at → byte_at bytes at ≡ Err faults.Damaged
unfolding byte_at
byte_past bytes at h = rw (le-ltb at (length bytes) h) refl

pub offset_past : (bytes : List ℕ) (at : ℕ) → length bytes < at + 4 → offset_at bytes at ≡ Err faults.Damaged
unfolding offset_at
offset_past bytes at h = rw (lt-ltb (length bytes) (at + 4) h) refl

pub four : (p : List ℕ) → length p ≡ 4 → get_or p 0 0 ∷ get_or p 1 0 ∷ get_or p 2 0 ∷ get_or p 3 0 ∷ [] ≡ p
four [] h = absurd (omega arith)
four (a ∷ []) h = absurd (omega arith)
four (a ∷ b ∷ []) h = absurd (omega arith)
four (a ∷ b ∷ c ∷ []) h = absurd (omega arith)
four (a ∷ b ∷ c ∷ d ∷ []) h = refl
four (a ∷ b ∷ c ∷ d ∷ e ∷ p) h = absurd (omega arith)

-- a place that is all
pub whole_at : (content : List ℕ) (place : DictPlace) → place.at ≡ 0 → place.bytes ≡ length content → bytes_at content place ≡ content
unfolding bytes_at
whole_at content place z n = ap (λ (k : ℕ). take place.bytes (drop k content)) z ∙ take_all place.bytes content (omega arith)
