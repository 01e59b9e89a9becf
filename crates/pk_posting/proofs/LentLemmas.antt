-- What a source lends of a list's bytes.
use Rattle.std.proofs.Common.{◌≡◌, ◌≤◌, ◌<◌, ◌+◌, ◌∙◌, ℕ, List, length, take, drop, slice_index, sym, ap, arith}
use Rattle.std.proofs.lemmas.List.{drop-take, take-take, drop-drop, length-take, length-drop}
use Rattle.pk_posting.specs.declared.fields.ListPlace.{ListPlace}
use Rattle.pk_posting.specs.Posting.{part, word}
use Rattle.pk_posting.specs.Parts.{bytes_at}
use Rattle.pk_posting.proofs.BlockLemmas.{get_part}

pub length_bytes_at : (content : List ℕ) (place : ListPlace) → place.at + place.bytes ≤ length content → length (bytes_at content place) ≡ place.bytes
unfolding bytes_at
length_bytes_at content place h = omega (arith, length-take place.bytes (drop place.at content), length-drop place.at content)

part_at : (content : List ℕ) (place : ListPlace) (n at : ℕ) → at + n ≤ place.bytes → take n (drop at (bytes_at content place)) ≡ take n (drop (place.at + at) content)
unfolding bytes_at
part_at content place n at h =
    sym (drop-take at n (take place.bytes (drop place.at content))) ∙ ap (drop at) (take-take (at + n) place.bytes (drop place.at content) h)
    ∙ drop-take at n (drop place.at content) ∙ ap (take n) (drop-drop at place.at content)

-- a stretch as it was lent
pub record Lent (content : List ℕ) (place : ListPlace) (n at : ℕ) (stretch : List ℕ) : Type 0 where
  pub inside : at + n ≤ place.bytes
  pub is : stretch ≡ take n (drop (place.at + at) content)

pub lent_part : (content : List ℕ) (place : ListPlace) (n at : ℕ) (stretch : List ℕ) → Lent content place n at stretch → part at n (bytes_at content place) ≡ stretch
lent_part content place n at stretch l = part_at content place n at l.inside ∙ sym l.is

pub byte_lent : (content : List ℕ) (place : ListPlace) (n at : ℕ) (stretch : List ℕ) (j : ℕ) → Lent content place n at stretch → j < n → slice_index stretch j ≡ slice_index (bytes_at content place) (at + j)
byte_lent content place n at stretch j l h = ap (λ (s : List ℕ). slice_index s j) (sym (lent_part content place n at stretch l)) ∙ get_part at n (bytes_at content place) j h

pub word_lent : (content : List ℕ) (place : ListPlace) (n at : ℕ) (stretch : List ℕ) (j p : ℕ) → Lent content place n at stretch → j + 4 ≤ n → p ≡ at + j → word stretch j ≡ word (bytes_at content place) p
unfolding word
word_lent content place n at stretch j p l h e =
    let B = bytes_at content place in
    let f : (i : ℕ) → i < n → slice_index stretch i ≡ slice_index B (at + i) = λ i m. byte_lent content place n at stretch i l m in
    let a = f j (omega arith) ∙ ap (slice_index B) (sym e) in
    let e1 : at + (j + 1) ≡ p + 1 = omega arith in
    let e2 : at + (j + 2) ≡ p + 2 = omega arith in
    let e3 : at + (j + 3) ≡ p + 3 = omega arith in
    let b = f (j + 1) (omega arith) ∙ ap (slice_index B) e1 in
    let c = f (j + 2) (omega arith) ∙ ap (slice_index B) e2 in
    let d = f (j + 3) (omega arith) ∙ ap (slice_index B) e3 in
    omega (arith, a, b, c, d)
