-- What is vbyte at a place is read there.
use Rattle.std.proofs.Common.{arith, refl, sym, ap, ◌∙◌, ◌≡◌, ◌<◌, ◌+◌, ◌^◌, ◌++◌, ℕ, List, length, drop, Ok, append_assoc}
use Rattle.std.proofs.lemmas.List.{drop-drop, drop_at, length-append}
use Rattle.pk_vbyte.specs.VariableByte.{vbyte, taken}
use Rattle.pk_vbyte.proofs.CallerLemmas.{taken_vbyte}
use Rattle.pk_dict.specs.declared.entry.Entry.{Entry}
use Rattle.pk_dict.specs.Dictionary.{numbers}
use Rattle.pk_dict.specs.Reading.{after, number_at, entry_at}

-- what follows a part
pub moved : (bytes : List ℕ) (at : ℕ) (x rest : List ℕ) → drop at bytes ≡ x ++ rest → drop (at + length x) bytes ≡ rest
moved bytes at x rest h = sym (drop-drop (length x) at bytes) ∙ ap (drop (length x)) h ∙ drop_at x rest (length x) refl

pub number_law : (bytes : List ℕ) (at n : ℕ) (rest : List ℕ) → n < 2 ^ 32 → drop at bytes ≡ vbyte n ++ rest → number_at bytes at ≡ Ok (n, at + length (vbyte n))
unfolding number_at
number_law bytes at n rest lt h = ap (λ (l : List ℕ). after at (taken l)) h ∙ ap (after at) (taken_vbyte n rest lt)

pub entry_law : (bytes : List ℕ) (at : ℕ) (e : Entry) (rest : List ℕ) → e.frequency < 2 ^ 32 → e.place.at < 2 ^ 32 → e.place.bytes < 2 ^ 32 → drop at bytes ≡ numbers e ++ rest → entry_at bytes at ≡ Ok (e, at + length (numbers e))
unfolding entry_at numbers
entry_law bytes at e rest f p n h =
    let h0 : drop at bytes ≡ vbyte e.frequency ++ (vbyte e.place.at ++ (vbyte e.place.bytes ++ rest)) = h ∙ append_assoc (vbyte e.frequency) (vbyte e.place.at ++ vbyte e.place.bytes) rest ∙ ap (λ (l : List ℕ). vbyte e.frequency ++ l) (append_assoc (vbyte e.place.at) (vbyte e.place.bytes) rest) in
    let h1 = moved bytes at (vbyte e.frequency) (vbyte e.place.at ++ (vbyte e.place.bytes ++ rest)) h0 in
    let h2 = moved bytes (at + length (vbyte e.frequency)) (vbyte e.place.at) (vbyte e.place.bytes ++ rest) h1 in
    rw (number_law bytes at e.frequency _ f h0) (rw (number_law bytes (at + length (vbyte e.frequency)) e.place.at _ p h1) (rw (number_law bytes (at + length (vbyte e.frequency) + length (vbyte e.place.at)) e.place.bytes rest n h2)
    (ap (λ (k : ℕ). Ok (e, k)) (omega (arith, length-append (vbyte e.frequency) (vbyte e.place.at ++ vbyte e.place.bytes), length-append (vbyte e.place.at) (vbyte e.place.bytes))))))
