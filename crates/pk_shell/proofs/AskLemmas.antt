-- What a line asks, from the tests that the code makes.
use Rattle.std.proofs.Common.{◌≡◌, ℕ, ◌^◌, nat_lt, nat_le, Bool, true, false, Some, None, Err, Bor, List, take, length, refl, ap, subst, ◌∙◌, eq-eqb, eqb-true, arith}
use Rattle.std.proofs.Math.Seq.{take-length}
use Rattle.std.specs.Prelude.{codes, IsUtf8, ◌&&◌}
use Rattle.std.specs.List.{position_or_len}
use Rattle.std.specs.Str.{all_ascii_digits}
use Rattle.std.specs.Str.Parse.{digits_value, ParsesUnsigned}
use Rattle.std.proofs.lemmas.Str.Parse.{IsNumeralModel, numerals_by_value, tells_all_ascii_digits, parse_digits}
use Rattle.std.proofs.lemmas.Str.Pattern.{IsSplitOnceResult, split_once_first}
use Rattle.std.proofs.lemmas.Bool.Decides.{nat_tests}
use Rattle.std.specs.Str.Lossy.{utf8_valid_len}
use Rattle.std.proofs.lemmas.Str.{utf8_valid_len-IsUtf8}
use Rattle.pk_shell.specs.Asked.{asked_short, asked_text, asked_alone, asked_with, is_text, is_space, is_short_numeral, number_of, refuses}

bool_cases : (b : Bool) → (b ≡ true → ⊥) → b ≡ false
bool_cases true h = absurd (h refl)
bool_cases false h = refl

text_true : (line : List ℕ) → IsUtf8 line → is_text line ≡ true
text_true line v = eq-eqb _ _ (utf8_valid_len-IsUtf8 line v)

not_text : (line : List ℕ) (n : ℕ) → IsUtf8 (take n line) → n ≡ utf8_valid_len line → (IsUtf8 line → ⊥) → is_text line ≡ false
not_text line n front e bad = bool_cases (is_text line) (λ t. bad (subst (λ x. IsUtf8 x) (ap (λ m. take m line) (e ∙ eqb-true _ _ t) ∙ take-length line) front))

-- A NUMBER that std does not parse
digits_model : IsNumeralModel (λ ds. all_ascii_digits ds ≡ true) (digits_value 10)
digits_model = numerals_by_value (λ ds. all_ascii_digits ds ≡ true) tells_all_ascii_digits

and_true : (a b : Bool) → (a && b) ≡ true → (a ≡ true) × (b ≡ true)
and_true true b h = (refl, h)
and_true false b h = (h, absurd (false_is_true h))
  where
    false_is_true : false ≡ true → ⊥
    false_is_true e = cc

pub number_refused : (text : List ℕ) → is_short_numeral text ≡ true → ParsesUnsigned {E = Unit {0}} 32 10 text (Err tt) → number_of text ≡ None
number_refused text short parsed =
    let digits = (and_true (nat_le (length text) 10) (all_ascii_digits text) short).1 in
    let never = parse_digits digits_model {E = Unit {0}} 32 text (Err tt) parsed digits in
    let not_both = bool_cases (nat_lt 0 (length text) && nat_lt (digits_value 10 text) (2 ^ 32)) (λ t.
    let tests = and_true (nat_lt 0 (length text)) (nat_lt (digits_value 10 text) (2 ^ 32)) t in
    never (grind (arith, nat_tests, tests.0), grind (arith, nat_tests, tests.1))) in
    rw (short, not_both) refl

-- THE FIRST SPACE
pub split_none : (line : List ℕ) → IsSplitOnceResult 32 line None → asked_text line ≡ asked_alone line
unfolding asked_text
split_none line h =
    let lacks : position_or_len is_space line ≡ length line = split_once_first 32 line None h (omega arith) in
    let test : nat_lt (position_or_len is_space line) (length line) ≡ false = grind (arith, nat_tests, lacks) in
    rw test refl

pub split_some : (line : List ℕ) (word rest : Bor (List ℕ)) → IsSplitOnceResult 32 line (Some (word, rest)) → asked_text line ≡ asked_with word.now rest.now
unfolding asked_text
split_some line word rest h =
    let found = split_once_first 32 line (Some (word, rest)) h (omega arith) in
    let test : nat_lt (position_or_len is_space line) (length line) ≡ true = grind (arith, nat_tests, found.0) in
    rw (test, found.1, found.2) refl

-- the bytes are text
pub short_text : (line : List ℕ) → IsUtf8 line → asked_short line ≡ asked_text line
unfolding asked_short
short_text line v = rw (text_true line v) refl

-- they are not
pub short_not_text : (line : List ℕ) (n : ℕ) → IsUtf8 (take n line) → n ≡ utf8_valid_len line → (IsUtf8 line → ⊥) → asked_short line ≡ refuses (codes "not text")
unfolding asked_short
short_not_text line n front e bad = rw (not_text line n front e bad) refl
