-- Where the fields of a spelling stand, and that a spelling spells its list.
use Rattle.std.proofs.Common.{◌≡◌, ℕ, zero, suc, ◌<◌, ◌≤◌, ◌+◌, ◌-◌, ◌*◌, ◌/◌, ◌%◌, ◌^◌, inl, inr, List, [], ◌∷◌, ◌++◌, length, drop, slice_index, nat_lt, nat_eq, arith, refl, sym, ap, ap₂, ◌∙◌, length-append}
use Rattle.std.specs.Int.{w32, to_le_bytes}
use Rattle.std.proofs.lemmas.Bool.{cases_lt, cond-true, cond-false, eq-eqb, ne_eqb, lt-ltb, le-ltb}
use Rattle.std.proofs.lemmas.List.{append_assoc, append-nil, ext_get_or, get_or_append_left, get_or-append-add, drop_at, get_or_past}
use Rattle.std.proofs.lemmas.List.FromFn.{length-map-range_with_len, get_or-map-range_with_len}
use Rattle.pk_lanes.specs.Packed.{Packed}
use Rattle.pk_posting.specs.Posting.{word, part, BlockOf, Spells, IsPosting, base, offset, width, total, seed, block, tail_place, tail_bytes}
use Rattle.pk_posting.specs.Spelling.{width_at, differences_of, widths_of, offset_of, spelled_length, packed_bytes, entry, width_byte, width_row, block_bytes, joined, head_of, body_of, tail_of, spelling}
use Rattle.pk_posting.proofs.DifferenceLemmas.{length_differences, difference}
use Rattle.pk_posting.proofs.BlockLemmas.{length_part, get_part}
use Rattle.pk_posting.proofs.PackedLemmas.{length_packed, packs}
use Rattle.pk_posting.proofs.WritingLemmas.{width_fits, width_least}

-- ---- parts, one after another

pub record Split (part : ℕ → List ℕ) (n m : ℕ) : Type 0 where
  pub rest : List ℕ
  pub split : joined part n ≡ (joined part m ++ part m) ++ rest

pub joined_more : (part : ℕ → List ℕ) (n : ℕ) → joined part (n + 1) ≡ joined part n ++ part n
unfolding joined
joined_more part n = let e : n + 1 ≡ suc n = omega arith in ap (joined part) e

joined_split : (part : ℕ → List ℕ) (n m : ℕ) → m < n → Split part n m
unfolding joined
joined_split part zero m h = absurd (omega arith)
joined_split part (suc n) m h = elim (cases_lt m n) [
  | inl l ↦ (let s = joined_split part n m l in record {
    rest = s.rest ++ part n;
    split = ap (λ ys. ys ++ part n) s.split ∙ append_assoc (joined part m ++ part m) s.rest (part n);
  })
  | inr r ↦ (let e : n ≡ m = omega arith in record {
    rest = [];
    split = ap (λ k. joined part k ++ part k) e ∙ sym (append-nil (joined part m ++ part m));
  })
]

-- a place in one of the parts
at_joined : (part : ℕ → List ℕ) (n m i : ℕ) → m < n → i < length (part m)
    → (length (joined part m) + i < length (joined part n)) × (slice_index (joined part n) (length (joined part m) + i) ≡ slice_index (part m) i)
at_joined part n m i h l =
    let s = joined_split part n m h in
    let long = ap length s.split ∙ length-append (joined part m ++ part m) s.rest in
    let front = length-append (joined part m) (part m) in (
      omega (arith, long, front),
      ap (λ ys. slice_index ys (length (joined part m) + i)) s.split
          ∙ get_or_append_left (joined part m ++ part m) s.rest 0 (length (joined part m) + i) (omega (arith, front))
          ∙ get_or-append-add (joined part m) (part m) i 0,
    )

-- ---- words

pub word_same : (xs ys : List ℕ) (a b : ℕ) → ((i : ℕ) → i < 4 → slice_index xs (a + i) ≡ slice_index ys (b + i)) → word xs a ≡ word ys b
unfolding word
word_same xs ys a b f =
    let e : a + 0 ≡ a = omega arith in
    let g : b + 0 ≡ b = omega arith in
    let z = ap (slice_index xs) (sym e) ∙ f 0 (omega arith) ∙ ap (slice_index ys) g in
    omega (arith, z, f 1 (omega arith), f 2 (omega arith), f 3 (omega arith))

word_of : (n : ℕ) (rest : List ℕ) → n < 2 ^ 32 → word (to_le_bytes w32 n ++ rest) 0 ≡ n
unfolding word
word_of n rest h = omega arith

length_entry : (xs : List ℕ) (k : ℕ) → length (entry xs k) ≡ 20
unfolding entry
length_entry xs k = refl

entry_offset : (xs : List ℕ) (k : ℕ) → offset_of k xs < 2 ^ 32 → word (entry xs k) 0 ≡ offset_of k xs
unfolding entry word
entry_offset xs k h = omega arith

-- a word whose four bytes are those of a number
four_bytes : (ys : List ℕ) (at n : ℕ) → n < 2 ^ 32 → slice_index ys at ≡ n % 256 → slice_index ys (at + 1) ≡ n / 256 % 256
    → slice_index ys (at + 2) ≡ n / 65536 % 256 → slice_index ys (at + 3) ≡ n / 16777216 % 256 → word ys at ≡ n
unfolding word
four_bytes ys at n h a b c d = omega (arith, a, b, c, d)

entry_last : (xs : List ℕ) (k c : ℕ) → ((i : ℕ) → slice_index xs i < 2 ^ 32) → c < 4 → word (entry xs k) (4 + 4 * c) ≡ slice_index xs (128 * k + 124 + c)
unfolding entry
entry_last xs k zero f h =
    let e : 128 * k + 124 ≡ 128 * k + 124 + 0 = omega arith in
    four_bytes (entry xs k) 4 (slice_index xs (128 * k + 124)) (f (128 * k + 124)) (omega arith) (omega arith) (omega arith) (omega arith) ∙ ap (slice_index xs) e
entry_last xs k (suc zero) f h =
    let e : 128 * k + 125 ≡ 128 * k + 124 + 1 = omega arith in
    four_bytes (entry xs k) 8 (slice_index xs (128 * k + 125)) (f (128 * k + 125)) (omega arith) (omega arith) (omega arith) (omega arith) ∙ ap (slice_index xs) e
entry_last xs k (suc (suc zero)) f h =
    let e : 128 * k + 126 ≡ 128 * k + 124 + 2 = omega arith in
    four_bytes (entry xs k) 12 (slice_index xs (128 * k + 126)) (f (128 * k + 126)) (omega arith) (omega arith) (omega arith) (omega arith) ∙ ap (slice_index xs) e
entry_last xs k (suc (suc (suc zero))) f h =
    let e : 128 * k + 127 ≡ 128 * k + 124 + 3 = omega arith in
    four_bytes (entry xs k) 16 (slice_index xs (128 * k + 127)) (f (128 * k + 127)) (omega arith) (omega arith) (omega arith) (omega arith) ∙ ap (slice_index xs) e
entry_last xs k (suc (suc (suc (suc c)))) f h = absurd (omega arith)

-- ---- lengths

length_entries : (xs : List ℕ) (n : ℕ) → length (joined (entry xs) n) ≡ 20 * n
unfolding joined
length_entries xs zero = refl
length_entries xs (suc n) = omega (arith, length-append (joined (entry xs) n) (entry xs n), length_entries xs n, length_entry xs n)

pub length_head : (xs : List ℕ) → length (head_of xs) ≡ 4 + 20 * (length xs / 128)
unfolding head_of
length_head xs = omega (arith, length-append (to_le_bytes w32 (length xs)) (joined (entry xs) (length xs / 128)), length_entries xs (length xs / 128))

pub length_row : (xs : List ℕ) (k : ℕ) → length (width_row xs k) ≡ 16
unfolding width_row
length_row xs k = length-map-range_with_len (λ j. width_byte xs (k + j)) 0 16

-- a piece with the widths of its metablock, and one without
pub piece_first : (xs : List ℕ) (k : ℕ) → k % 16 ≡ 0 → block_bytes xs k ≡ width_row xs k ++ packed_bytes (width_at k xs) (differences_of k xs)
unfolding block_bytes
piece_first xs k h = ap (λ ys. ys ++ packed_bytes (width_at k xs) (differences_of k xs)) (cond-true (nat_eq (k % 16) 0) (width_row xs k) [] (eq-eqb _ _ h))

pub piece_later : (xs : List ℕ) (k : ℕ) → 0 < k % 16 → block_bytes xs k ≡ packed_bytes (width_at k xs) (differences_of k xs)
unfolding block_bytes
piece_later xs k h = ap (λ ys. ys ++ packed_bytes (width_at k xs) (differences_of k xs)) (cond-false (nat_eq (k % 16) 0) (width_row xs k) [] (ne_eqb _ _ (λ e. omega arith)))

length_piece : (xs : List ℕ) (k : ℕ) → length (block_bytes xs k) ≡ 16 * ((k + 16) / 16) - 16 * ((k + 15) / 16) + 16 * width_at k xs
length_piece xs k = elim (cases_lt 0 (k % 16)) [
  | inl l ↦ omega (arith, ap length (piece_later xs k l), length_packed (width_at k xs) (differences_of k xs))
  | inr r ↦ omega (arith, ap length (piece_first xs k (omega arith)), length-append (width_row xs k) (packed_bytes (width_at k xs) (differences_of k xs)), length_row xs k, length_packed (width_at k xs) (differences_of k xs))
]

pub widths_next : (k : ℕ) (xs : List ℕ) → widths_of (suc k) xs ≡ widths_of k xs + width_at k xs
unfolding widths_of
widths_next k xs = refl

pub length_pieces : (xs : List ℕ) (n : ℕ) → length (joined (block_bytes xs) n) ≡ 16 * ((n + 15) / 16) + 16 * widths_of n xs
unfolding joined widths_of
length_pieces xs zero = refl
length_pieces xs (suc n) = omega (arith, length-append (joined (block_bytes xs) n) (block_bytes xs n), length_pieces xs n, length_piece xs n)

pub row_at : (xs : List ℕ) (k j : ℕ) → j < 16 → slice_index (width_row xs k) j ≡ width_byte xs (k + j)
unfolding width_row
row_at xs k j h = get_or-map-range_with_len (λ j. width_byte xs (k + j)) 0 16 j j 0 h (omega arith)

-- ---- widths are at most 32

pub width_most : (xs : List ℕ) (k : ℕ) → ((i : ℕ) → slice_index xs i < 2 ^ 32) → 128 * k + 128 ≤ length xs → width_at k xs ≤ 32
width_most xs k f h = width_least (differences_of k xs) 32 (λ i l.
    let long = length_differences (seed k xs) (block k xs) ∙ length_part (128 * k) 128 xs h in
    let m : i < 128 = omega arith in
    let d = difference (seed k xs) (block k xs) i (omega (arith, length_part (128 * k) 128 xs h)) in
    let b = get_part (128 * k) 128 xs i m in
    omega (arith, d, b, f (128 * k + i)))

pub widths_most : (xs : List ℕ) (n : ℕ) → ((i : ℕ) → slice_index xs i < 2 ^ 32) → 128 * n ≤ length xs → widths_of n xs ≤ 32 * n
unfolding widths_of
widths_most xs zero f h = omega arith
widths_most xs (suc n) f h = omega (arith, widths_most xs n f (omega arith), width_most xs n f (omega arith))

-- ---- places in the whole

head_at : (xs : List ℕ) (i : ℕ) → i < 4 + 20 * (length xs / 128) → slice_index (spelling xs) i ≡ slice_index (head_of xs) i
unfolding spelling
head_at xs i h = get_or_append_left (head_of xs) (body_of xs ++ tail_of xs) 0 i (omega (arith, length_head xs))

entry_at : (xs : List ℕ) (k i : ℕ) → k < length xs / 128 → i < 20 → slice_index (head_of xs) (4 + 20 * k + i) ≡ slice_index (entry xs k) i
unfolding head_of
entry_at xs k i h l =
    let e : 4 + 20 * k + i ≡ 4 + (20 * k + i) = omega arith in
    let g : length (joined (entry xs) k) + i ≡ 20 * k + i = omega (arith, length_entries xs k) in
    ap (slice_index (to_le_bytes w32 (length xs) ++ joined (entry xs) (length xs / 128))) e
    ∙ get_or-append-add (to_le_bytes w32 (length xs)) (joined (entry xs) (length xs / 128)) (20 * k + i) 0
    ∙ ap (slice_index (joined (entry xs) (length xs / 128))) (sym g)
    ∙ (at_joined (entry xs) (length xs / 128) k i h (omega (arith, length_entry xs k))).1

pub spelled_count : (xs : List ℕ) → length xs < 2 ^ 32 → word (spelling xs) 0 ≡ length xs
unfolding head_of
spelled_count xs h = word_same (spelling xs) (head_of xs) 0 0 (λ i l. head_at xs (0 + i) (omega arith)) ∙ word_of (length xs) (joined (entry xs) (length xs / 128)) h

spelled_word : (xs : List ℕ) (k i : ℕ) → k < length xs / 128 → i ≤ 16 → word (spelling xs) (4 + 20 * k + i) ≡ word (entry xs k) i
spelled_word xs k i h l = word_same (spelling xs) (entry xs k) (4 + 20 * k + i) i (λ j m.
    let e : 4 + 20 * k + i + j ≡ 4 + 20 * k + (i + j) = omega arith in
    head_at xs (4 + 20 * k + i + j) (omega arith) ∙ ap (slice_index (head_of xs)) e ∙ entry_at xs k (i + j) h (omega arith))

pub spelled_offset : (xs : List ℕ) (k : ℕ) → IsPosting xs → ((i : ℕ) → slice_index xs i < 2 ^ 32) → k < length xs / 128 → offset (spelling xs) k ≡ offset_of k xs
spelled_offset xs k p f h =
    let e : 4 + 20 * k ≡ 4 + 20 * k + 0 = omega arith in
    let w = widths_most xs k f (omega arith) in
    let s = p.short in
    ap (word (spelling xs)) e ∙ spelled_word xs k 0 h (omega arith) ∙ entry_offset xs k (omega arith)

spelled_last : (xs : List ℕ) (k c : ℕ) → ((i : ℕ) → slice_index xs i < 2 ^ 32) → k < length xs / 128 → c < 4
    → word (spelling xs) (8 + 20 * k + 4 * c) ≡ slice_index xs (128 * k + 124 + c)
spelled_last xs k c f h l =
    let e : 8 + 20 * k + 4 * c ≡ 4 + 20 * k + (4 + 4 * c) = omega arith in
    ap (word (spelling xs)) e ∙ spelled_word xs k (4 + 4 * c) h (omega arith) ∙ entry_last xs k c f l

body_at : (xs : List ℕ) (i : ℕ) → i < length (body_of xs) → slice_index (spelling xs) (4 + 20 * (length xs / 128) + i) ≡ slice_index (body_of xs) i
unfolding spelling
body_at xs i h =
    let e : 4 + 20 * (length xs / 128) + i ≡ length (head_of xs) + i = omega (arith, length_head xs) in
    ap (slice_index (head_of xs ++ (body_of xs ++ tail_of xs))) e ∙ get_or-append-add (head_of xs) (body_of xs ++ tail_of xs) i 0
    ∙ get_or_append_left (body_of xs) (tail_of xs) 0 i h

piece_at : (xs : List ℕ) (k i : ℕ) → k < length xs / 128 → i < length (block_bytes xs k)
    → slice_index (spelling xs) (4 + 20 * (length xs / 128) + (length (joined (block_bytes xs) k) + i)) ≡ slice_index (block_bytes xs k) i
unfolding body_of
piece_at xs k i h l =
    let a = at_joined (block_bytes xs) (length xs / 128) k i h l in
    body_at xs (length (joined (block_bytes xs) k) + i) a.0 ∙ a.1

-- the width byte of block k, also where there is no block
pub spelled_width : (xs : List ℕ) (k : ℕ) → IsPosting xs → ((i : ℕ) → slice_index xs i < 2 ^ 32) → 16 * (k / 16) < length xs / 128
    → width (spelling xs) (length xs / 128) k ≡ width_byte xs k
spelled_width xs k p f h =
    let m = 16 * (k / 16) in
    let o = spelled_offset xs m p f h in
    let first : m % 16 ≡ 0 = omega arith in
    let long = ap length (piece_first xs m first) ∙ length-append (width_row xs m) (packed_bytes (width_at m xs) (differences_of m xs)) in
    let place : base (length xs / 128) + (offset (spelling xs) m - 16) + k % 16 ≡ 4 + 20 * (length xs / 128) + (length (joined (block_bytes xs) m) + k % 16) =
    omega (arith, o, length_pieces xs m) in
    let back : m + k % 16 ≡ k = omega arith in
    ap (slice_index (spelling xs)) place ∙ piece_at xs m (k % 16) h (omega (arith, long, length_row xs m))
    ∙ ap (λ ys. slice_index ys (k % 16)) (piece_first xs m first)
    ∙ get_or_append_left (width_row xs m) (packed_bytes (width_at m xs) (differences_of m xs)) 0 (k % 16) (omega (arith, length_row xs m))
    ∙ row_at xs m (k % 16) (omega arith) ∙ ap (width_byte xs) back

pub spelled_width_in : (xs : List ℕ) (k : ℕ) → IsPosting xs → ((i : ℕ) → slice_index xs i < 2 ^ 32) → k < length xs / 128
    → width (spelling xs) (length xs / 128) k ≡ width_at k xs
spelled_width_in xs k p f h = spelled_width xs k p f (omega arith) ∙ cond-true (nat_lt k (length xs / 128)) (width_at k xs) 0 (lt-ltb _ _ h)

pub spelled_total : (xs : List ℕ) (k : ℕ) → IsPosting xs → ((i : ℕ) → slice_index xs i < 2 ^ 32) → k ≤ length xs / 128
    → total (spelling xs) (length xs / 128) k ≡ widths_of k xs
unfolding total widths_of
spelled_total xs zero p f h = refl
spelled_total xs (suc k) p f h = ap₂ (λ m n. m + n) (spelled_total xs k p f (omega arith)) (spelled_width_in xs k p f (omega arith))

-- the packed block
packed_part : (xs : List ℕ) (k i : ℕ) → k < length xs / 128 → i < 16 * width_at k xs
    → slice_index (spelling xs) (4 + 20 * (length xs / 128) + offset_of k xs + i) ≡ slice_index (packed_bytes (width_at k xs) (differences_of k xs)) i
packed_part xs k i h l =
    let packed = packed_bytes (width_at k xs) (differences_of k xs) in
    let long = length_packed (width_at k xs) (differences_of k xs) in
    let before = length_pieces xs k in
    elim (cases_lt 0 (k % 16)) [
      | inl m ↦ (
          let e : 4 + 20 * (length xs / 128) + offset_of k xs + i ≡ 4 + 20 * (length xs / 128) + (length (joined (block_bytes xs) k) + i) = omega arith in
          ap (slice_index (spelling xs)) e ∙ piece_at xs k i h (omega (arith, ap length (piece_later xs k m))) ∙ ap (λ ys. slice_index ys i) (piece_later xs k m))
      | inr m ↦ (
          let z : k % 16 ≡ 0 = omega arith in
          let row = length_row xs k in
          let e : 4 + 20 * (length xs / 128) + offset_of k xs + i ≡ 4 + 20 * (length xs / 128) + (length (joined (block_bytes xs) k) + (length (width_row xs k) + i)) = omega arith in
          ap (slice_index (spelling xs)) e
          ∙ piece_at xs k (length (width_row xs k) + i) h (omega (arith, ap length (piece_first xs k z), length-append (width_row xs k) packed))
          ∙ ap (λ ys. slice_index ys (length (width_row xs k) + i)) (piece_first xs k z)
          ∙ get_or-append-add (width_row xs k) packed i 0)
    ]

pub length_body : (xs : List ℕ) → length (body_of xs) ≡ 16 * ((length xs / 128 + 15) / 16) + 16 * widths_of (length xs / 128) xs
unfolding body_of
length_body xs = length_pieces xs (length xs / 128)

pub length_spelling : (xs : List ℕ) → length (spelling xs) ≡ spelled_length xs
unfolding spelling tail_of
length_spelling xs = omega (arith, length-append (head_of xs) (body_of xs ++ tail_of xs), length-append (body_of xs) (tail_of xs), length_head xs, length_body xs)

-- ---- a spelling spells

pub widths_grow : (xs : List ℕ) (m n : ℕ) → m ≤ n → widths_of m xs ≤ widths_of n xs
unfolding widths_of
widths_grow xs m zero h = (let e : m ≡ 0 = omega arith in omega (arith, ap (λ k. widths_of k xs) e))
widths_grow xs m (suc n) h = elim (cases_lt m (suc n)) [
  | inl l ↦ omega (arith, widths_grow xs m n (omega arith))
  | inr r ↦ (let e : m ≡ suc n = omega arith in omega (arith, ap (λ k. widths_of k xs) e))
]

packed_whole : (xs : List ℕ) (k : ℕ) → k < length xs / 128
    → part (4 + 20 * (length xs / 128) + offset_of k xs) (16 * width_at k xs) (spelling xs) ≡ packed_bytes (width_at k xs) (differences_of k xs)
packed_whole xs k h =
    let at = 4 + 20 * (length xs / 128) + offset_of k xs in
    let n = 16 * width_at k xs in
    let next = widths_grow xs (k + 1) (length xs / 128) (omega arith) in
    let one : widths_of (k + 1) xs ≡ widths_of k xs + width_at k xs = (let e : k + 1 ≡ suc k = omega arith in ap (λ m. widths_of m xs) e ∙ widths_next k xs) in
    let room : at + n ≤ length (spelling xs) = omega (arith, length_spelling xs, next, one) in
    let long = length_packed (width_at k xs) (differences_of k xs) in
    ext_get_or 0 (part at n (spelling xs)) (packed_bytes (width_at k xs) (differences_of k xs)) (length_part at n (spelling xs) room ∙ sym long) (λ i l.
    let m : i < n = omega (arith, length_part at n (spelling xs) room) in
    get_part at n (spelling xs) i m ∙ packed_part xs k i h m)

spelled_block : (xs : List ℕ) (k : ℕ) → IsPosting xs → ((i : ℕ) → slice_index xs i < 2 ^ 32) → k < length xs / 128
    → BlockOf (spelling xs) (length xs / 128) k xs
spelled_block xs k p f h =
    let w = spelled_width_in xs k p f h in
    let o = spelled_offset xs k p f h in
    let room : 128 * k + 128 ≤ length xs = omega arith in
    let long : length (differences_of k xs) ≡ 128 = length_differences (seed k xs) (block k xs) ∙ length_part (128 * k) 128 xs room in
    let most = width_most xs k f room in
    let packed : Packed (part (4 + 20 * (length xs / 128) + offset_of k xs) (16 * width_at k xs) (spelling xs)) (width_at k xs) (differences_of k xs) =
    rw (packed_whole xs k h) (packs (width_at k xs) (differences_of k xs) long (λ i l. width_fits (differences_of k xs) i (omega arith))) in
    record {
      last = λ c l. spelled_last xs k c f h l;
      small = omega (arith, w, most);
      block = record {
        packed = rw (w, o) packed;
        least = λ a g. (let l = width_least (differences_of k xs) a (λ i m. g i (omega arith)) in omega (arith, w, l));
      };
    }

spelled_padding : (xs : List ℕ) (k : ℕ) → IsPosting xs → ((i : ℕ) → slice_index xs i < 2 ^ 32) → length xs / 128 ≤ k → 16 * (k / 16) < length xs / 128
    → width (spelling xs) (length xs / 128) k ≡ 0
spelled_padding xs k p f l h = spelled_width xs k p f h ∙ cond-false (nat_lt k (length xs / 128)) (width_at k xs) 0 (le-ltb _ _ l)

after_body : (xs : List ℕ) → drop (length (head_of xs) + length (body_of xs)) (spelling xs) ≡ tail_of xs
unfolding spelling
after_body xs =
    ap (drop (length (head_of xs) + length (body_of xs))) (sym (append_assoc (head_of xs) (body_of xs) (tail_of xs)))
    ∙ drop_at (head_of xs ++ body_of xs) (tail_of xs) (length (head_of xs) + length (body_of xs)) (length-append (head_of xs) (body_of xs))

tail_is : (xs : List ℕ) → tail_of xs ≡ tail_bytes (slice_index (0 ∷ xs) (128 * (length xs / 128))) (drop (128 * (length xs / 128)) xs)
unfolding tail_of
tail_is xs = refl

-- each number is below 2^32, and so is the 0 that is read past the end
pub small_at : (xs : List ℕ) → IsPosting xs → (i : ℕ) → slice_index xs i < 2 ^ 32
small_at xs p i = elim (cases_lt i (length xs)) [ inl l ↦ p.below i l | inr m ↦ omega (arith, get_or_past xs i 0 m) ]

-- the bytes `spelling xs` spell the list xs
pub spelling_spells : (xs : List ℕ) → IsPosting xs → Spells (spelling xs) xs
spelling_spells xs p =
    let f = small_at xs p in
    let s = p.short in
    let t = spelled_total xs (length xs / 128) p f (omega arith) in
    let place : tail_place (spelling xs) (length xs / 128) ≡ length (head_of xs) + length (body_of xs) = omega (arith, t, length_head xs, length_body xs) in
    record {
      posting = p;
      count = spelled_count xs (omega arith);
      offsets = λ k h. (let o = spelled_offset xs k p f h in let w = spelled_total xs k p f (omega arith) in omega (arith, o, w));
      blocks = λ k h. spelled_block xs k p f h;
      padding = λ k l h. spelled_padding xs k p f l h;
      whole = omega (arith, place, length_spelling xs, length_head xs, length_body xs);
      tail = ap (λ n. drop n (spelling xs)) place ∙ after_body xs ∙ tail_is xs;
    }
