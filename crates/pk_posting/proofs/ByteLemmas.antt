-- A spelling is made of bytes, so it is the one spelling of its list.
use Rattle.std.proofs.Common.{◌≡◌, ℕ, zero, suc, ◌<◌, ◌+◌, ◌-◌, ◌*◌, ◌/◌, ◌%◌, inl, inr, List, [], ◌∷◌, ◌++◌, length, drop, slice_index, nat_lt, arith, sym, subst}
use Rattle.std.specs.Int.{w32, to_le_bytes}
use Rattle.std.proofs.lemmas.Bool.{cases_lt, cond-true, cond-false, lt-ltb, le-ltb}
use Rattle.std.proofs.lemmas.List.{get_or_past}
use Rattle.pk_vbyte.specs.VariableByte.{vbyte}
use Rattle.pk_vbyte.proofs.CallerLemmas.{byte_vbyte}
use Rattle.pk_posting.specs.Posting.{IsPosting, Spells, tail_bytes}
use Rattle.pk_posting.specs.Spelling.{AreBytes, width_at, differences_of, offset_of, packed_bytes, entry, width_byte, width_row, block_bytes, joined, head_of, body_of, tail_of, spelling}
use Rattle.pk_posting.proofs.PackedLemmas.{packed_below}
use Rattle.pk_posting.proofs.SpellingLemmas.{length_row, row_at, width_most, small_at, spelling_spells, piece_first, piece_later}
use Rattle.pk_posting.proofs.OneSpellingLemmas.{one_spelling}

bytes_append : (xs ys : List ℕ) → AreBytes xs → AreBytes ys → AreBytes (xs ++ ys)
bytes_append [] ys f g i = g i
bytes_append (x ∷ xs) ys f g zero = f 0
bytes_append (x ∷ xs) ys f g (suc i) = bytes_append xs ys (λ j. f (suc j)) g i

bytes_none : AreBytes []
bytes_none i = omega arith

bytes_word : (n : ℕ) → AreBytes (to_le_bytes w32 n)
bytes_word n zero = omega arith
bytes_word n (suc zero) = omega arith
bytes_word n (suc (suc zero)) = omega arith
bytes_word n (suc (suc (suc zero))) = omega arith
bytes_word n (suc (suc (suc (suc i)))) = omega arith

bytes_joined : (part : ℕ → List ℕ) (n : ℕ) → ((k : ℕ) → k < n → AreBytes (part k)) → AreBytes (joined part n)
unfolding joined
bytes_joined part zero f = bytes_none
bytes_joined part (suc n) f = bytes_append (joined part n) (part n) (bytes_joined part n (λ k h. f k (omega arith))) (f n (omega arith))

bytes_entry : (xs : List ℕ) (k : ℕ) → AreBytes (entry xs k)
unfolding entry
bytes_entry xs k =
    let number : ℕ → List ℕ = λ c. to_le_bytes w32 (slice_index xs (128 * k + c)) in
    bytes_append (to_le_bytes w32 (offset_of k xs)) (number 124 ++ (number 125 ++ (number 126 ++ number 127))) (bytes_word (offset_of k xs))
    (bytes_append (number 124) (number 125 ++ (number 126 ++ number 127)) (bytes_word (slice_index xs (128 * k + 124)))
    (bytes_append (number 125) (number 126 ++ number 127) (bytes_word (slice_index xs (128 * k + 125)))
    (bytes_append (number 126) (number 127) (bytes_word (slice_index xs (128 * k + 126))) (bytes_word (slice_index xs (128 * k + 127))))))

byte_width : (xs : List ℕ) (k : ℕ) → IsPosting xs → width_byte xs k < 256
byte_width xs k p = elim (cases_lt k (length xs / 128)) [
  | inl l ↦ (let e = cond-true (nat_lt k (length xs / 128)) (width_at k xs) 0 (lt-ltb _ _ l) in
      let m = width_most xs k (small_at xs p) (omega arith) in omega (arith, e, m))
  | inr r ↦ (let e = cond-false (nat_lt k (length xs / 128)) (width_at k xs) 0 (le-ltb _ _ r) in omega (arith, e))
]

bytes_row : (xs : List ℕ) (k : ℕ) → IsPosting xs → AreBytes (width_row xs k)
bytes_row xs k p j = elim (cases_lt j 16) [
  | inl l ↦ (let e = row_at xs k j l in omega (arith, e, byte_width xs (k + j) p))
  | inr r ↦ (let e = get_or_past (width_row xs k) j 0 (omega (arith, length_row xs k)) in omega (arith, e))
]

bytes_piece : (xs : List ℕ) (k : ℕ) → IsPosting xs → AreBytes (block_bytes xs k)
bytes_piece xs k p =
    let packed = packed_bytes (width_at k xs) (differences_of k xs) in
    let f : AreBytes packed = packed_below (width_at k xs) (differences_of k xs) in
    elim (cases_lt 0 (k % 16)) [
      | inl l ↦ subst AreBytes (sym (piece_later xs k l)) f
      | inr r ↦ subst AreBytes (sym (piece_first xs k (omega arith))) (bytes_append (width_row xs k) packed (bytes_row xs k p) f)
    ]

bytes_tail : (before : ℕ) (xs : List ℕ) → AreBytes (tail_bytes before xs)
unfolding tail_bytes
bytes_tail before [] = bytes_none
bytes_tail before (x ∷ xs) = bytes_append (vbyte (x - before)) (tail_bytes x xs) (byte_vbyte (x - before)) (bytes_tail x xs)

-- the spelling of a list is made of bytes
pub bytes_spelling : (xs : List ℕ) → IsPosting xs → AreBytes (spelling xs)
unfolding spelling head_of body_of tail_of
bytes_spelling xs p =
    bytes_append (head_of xs) (body_of xs ++ tail_of xs)
    (bytes_append (to_le_bytes w32 (length xs)) (joined (entry xs) (length xs / 128)) (bytes_word (length xs)) (bytes_joined (entry xs) (length xs / 128) (λ k h. bytes_entry xs k)))
    (bytes_append (body_of xs) (tail_of xs) (bytes_joined (block_bytes xs) (length xs / 128) (λ k h. bytes_piece xs k p))
    (bytes_tail (slice_index (0 ∷ xs) (128 * (length xs / 128))) (drop (128 * (length xs / 128)) xs)))

-- what spells a list is its spelling
pub spelling_is : (bytes xs : List ℕ) → AreBytes bytes → Spells bytes xs → bytes ≡ spelling xs
spelling_is bytes xs f s = one_spelling bytes (spelling xs) xs (record {
  first = s;
  second = spelling_spells xs s.posting;
  bytes_a = f;
  bytes_b = bytes_spelling xs s.posting;
})

pub one_spelling_of : (a b xs : List ℕ) → AreBytes a → AreBytes b → Spells a xs → Spells b xs → a ≡ b
one_spelling_of a b xs f g s t = one_spelling a b xs (record { first = s; second = t; bytes_a = f; bytes_b = g })
