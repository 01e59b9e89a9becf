-- What any bytes say of texts.
use Rattle.std.proofs.Common.{◌≡◌, ◌∙◌, ◌+◌, ◌<◌, ◌≤◌, ℕ, List, Option, Some, None, Result, Ok, Err, ap, arith, drop, take, length, slice_index, subst, inl, inr}
use Rattle.std.proofs.lemmas.Bool.{cases_lt}
use Rattle.std.proofs.lemmas.List.{length-take-le, take-take}
use Rattle.std.specs.Borrow.{Bor}
use Rattle.std.specs.Prelude.{IfSome, IsUtf8, OnOk}
use Rattle.pk_phrase.specs.Said.{HasText, HaveTexts, LiesSaid}
use Rattle.pk_segment.specs.declared.directory.Directory.{Directory}
use Rattle.pk_segment.specs.declared.segment.Segment.{Segment}
use Rattle.pk_segment.specs.Directory.{entries_in, field_in, number_in}
use Rattle.pk_segment.specs.Fields.{entry_field, number_at, text_in}
use Rattle.pk_segment.specs.Opened.{count_of}
use Rattle.pk_segment.specs.Texts.{TextSaid}

-- an entry of a directory in memory that was read
entry_there : (bytes : List ℕ) (s : Segment) (d : Directory) (at : ℕ) → (entries_in d ≡ count_of s) × ((i : ℕ) → i < count_of s → field_in d i ≡ entry_field bytes i) → at < entries_in d
    → (at < count_of s) × (field_in d at ≡ entry_field bytes at)
entry_there bytes s d at read lt =
    let within : at < count_of s = omega (arith, lt, read.0) in
    (within, read.1 at within)

-- its text
pub said_there : (bytes : List ℕ) (s : Segment) (d : Directory) (at number : ℕ) (text : List ℕ) → (entries_in d ≡ count_of s) × ((i : ℕ) → i < count_of s → field_in d i ≡ entry_field bytes i)
    → at < entries_in d → number ≡ number_in d at → text ≡ text_in bytes (count_of s) (field_in d at) → length text ≡ number_at 8 (field_in d at) → IsUtf8 text → TextSaid bytes s number text
said_there bytes s d at number text read lt number_is text_is long utf8 =
    let there = entry_there bytes s d at read lt in
    record {
      place = at;
      within = there.0;
      number_is = number_is ∙ ap (number_at 0) there.1;
      text_is = text_is ∙ ap (text_in bytes (count_of s)) there.1;
      long = long ∙ ap (number_at 8) there.1;
      utf8 = utf8;
    }

-- and where it lies, before it is read
pub lies_there : (bytes : List ℕ) (s : Segment) (d : Directory) (at number : ℕ) (place : ℕ × ℕ) → (entries_in d ≡ count_of s) × ((i : ℕ) → i < count_of s → field_in d i ≡ entry_field bytes i)
    → at < entries_in d → number ≡ number_in d at → take place.1 (drop place.0 bytes) ≡ text_in bytes (count_of s) (field_in d at) → place.1 ≡ number_at 8 (field_in d at) → LiesSaid bytes s number place
lies_there bytes s d at number place read lt number_is text_is len_is =
    let there = entry_there bytes s d at read lt in
    record {
      at = at;
      within = there.0;
      number_is = number_is ∙ ap (number_at 0) there.1;
      text_is = text_is ∙ ap (text_in bytes (count_of s)) there.1;
      len_is = len_is ∙ ap (number_at 8) there.1;
    }

pub text_lies : (bytes : List ℕ) (s : Segment) (number : ℕ) (place : ℕ × ℕ) (text : List ℕ) → LiesSaid bytes s number place → text ≡ take place.1 (drop place.0 bytes) → length text ≡ place.1 → IsUtf8 text → TextSaid bytes s number text
text_lies bytes s number place text lies is long utf8 = record {
  place = lies.at;
  within = lies.within;
  number_is = lies.number_is;
  text_is = is ∙ lies.text_is;
  long = long ∙ lies.len_is;
  utf8 = utf8;
}

-- so has a part of a span that has the bytes
pub part_said : (bytes : List ℕ) (s : Segment) (number : ℕ) (place : ℕ × ℕ) (part : Option (Bor (List ℕ))) → LiesSaid bytes s number place → IfSome part (λ p. p.now ≡ take place.1 (drop place.0 bytes)) → IfSome part (λ p. length p.now ≡ place.1)
    → IfSome part (λ p. IsUtf8 p.now → TextSaid bytes s number p.now)
part_said bytes s number place None lies is long = tt
part_said bytes s number place (Some p) lies is long = λ utf8. text_lies bytes s number place p.now lies is long utf8

-- at the front of bytes that are lent
pub text_front : (content bytes : List ℕ) (s : Segment) (number len : ℕ) (place : ℕ × ℕ) → LiesSaid content s number place → bytes ≡ take len (drop place.0 content) → length bytes ≡ len → place.1 ≤ len
    → IsUtf8 (take place.1 bytes) → HasText content s number
text_front content bytes s number len place lies is lent few utf8 =
    (take place.1 bytes, text_lies content s number place (take place.1 bytes) lies (ap (take place.1) is ∙ take-take place.1 len (drop place.0 content) few) (length-take-le place.1 bytes (omega (arith, lent, few))) utf8)

pub texts_none : (bytes : List ℕ) (s : Segment) (numbers : List ℕ) (n : ℕ) → HaveTexts bytes s numbers n n
texts_none bytes s numbers n i le lt = absurd (omega (arith, le, lt))

pub texts_one : (bytes : List ℕ) (s : Segment) (numbers : List ℕ) (n number : ℕ) → number ≡ slice_index numbers n → HasText bytes s number → HaveTexts bytes s numbers n (n + 1)
texts_one bytes s numbers n number is has i le lt =
    let e : n ≡ i = omega (arith, le, lt) in
    subst (λ (k : ℕ). HasText bytes s (slice_index numbers k)) e (subst (HasText bytes s) is has)

pub texts_then : (bytes : List ℕ) (s : Segment) (numbers : List ℕ) (from middle to : ℕ) → HaveTexts bytes s numbers from middle → HaveTexts bytes s numbers middle to → HaveTexts bytes s numbers from to
texts_then bytes s numbers from middle to first second i le lt = elim (cases_lt i middle) [ inl l ↦ first i le l | inr g ↦ second i (omega (arith, g)) lt ]

-- what follows of two where a call does not fail
pub ok_both : {T E P Q R : Type 0} (r : Result T E) → (P → Q → R) → OnOk r P → OnOk r Q → OnOk r R
ok_both (Ok v) so one other = so one other
ok_both (Err e) so one other = tt
