-- One block more is written: where it goes, and what stands there then.
use Rattle.std.proofs.Common.{◌≡◌, ℕ, suc, ◌<◌, ◌≤◌, ◌+◌, ◌*◌, ◌/◌, ◌%◌, ◌^◌, inl, inr, List, [], ◌∷◌, ◌++◌, length, take, drop, slice_index, nat_eq, if◌then◌else◌, arith, refl, sym, ap, ap₂, ◌∙◌, length-append}
use Rattle.std.proofs.lemmas.Bool.{cases_lt, cond-true, cond-false, eq-eqb, ne_eqb}
use Rattle.std.specs.Int.{w32, to_le_bytes}
use Rattle.std.proofs.lemmas.List.{append_assoc, append-nil, take_all}
use Rattle.pk_posting.specs.Posting.{IsPosting, tail_bytes}
use Rattle.pk_posting.specs.Spelling.{width_at, widths_of, offset_of, differences_of, packed_bytes, entry, width_row, block_bytes, joined, head_of, body_of, tail_of, spelling}
use Rattle.pk_posting.specs.Writing.{BlocksPut}
use Rattle.pk_posting.proofs.SpellingLemmas.{joined_more, length_pieces, length_head, length_body, widths_grow, widths_next, widths_most, small_at}

-- the room of the width bytes before block k
abbrev pub pad : ℕ → ℕ
pad k = if nat_eq (k % 16) 0 then 16 else 0

pad_is : (k : ℕ) → 16 * ((k + 15) / 16) + pad k ≡ 16 * (k / 16 + 1)
pad_is k = elim (cases_lt 0 (k % 16)) [
  | inl l ↦ (let p : pad k ≡ 0 = cond-false (nat_eq (k % 16) 0) 16 0 (ne_eqb _ _ (λ e. omega arith)) in omega (arith, p))
  | inr r ↦ (let p : pad k ≡ 16 = cond-true (nat_eq (k % 16) 0) 16 0 (eq-eqb _ _ (omega arith)) in omega (arith, p))
]

pub blocks_start : (xs head body : List ℕ) → BlocksPut xs 0 0 head head body
unfolding joined
blocks_start xs head body = record { entries = sym (append-nil (take 4 head)); offset = refl; blocks = refl }

pub place_of : (xs : List ℕ) (k at : ℕ) (old head body : List ℕ) → BlocksPut xs k at old head body → at + pad k ≡ offset_of k xs
place_of xs k at old head body b = let p = b.offset in omega (arith, p, length_pieces xs k, pad_is k)

pub room_of : (xs : List ℕ) (k : ℕ) → k < length xs / 128 → offset_of k xs + 16 * width_at k xs ≤ length (body_of xs)
room_of xs k h =
    let next : k + 1 ≡ suc k = omega arith in
    let grow = widths_grow xs (k + 1) (length xs / 128) (omega arith) in
    let one = ap (λ n. widths_of n xs) next ∙ widths_next k xs in
    omega (arith, length_body xs, grow, one)

-- the offset of a block fits 32 bits
pub offset_fits : (xs : List ℕ) (k : ℕ) → IsPosting xs → k < length xs / 128 → offset_of k xs < 2 ^ 32
offset_fits xs k p h =
    let w = widths_most xs k (small_at xs p) (omega arith) in
    let s = p.short in
    omega arith

pub blocks_more : (xs : List ℕ) (k at here w : ℕ) (old head head' body body' body'' ds : List ℕ) → BlocksPut xs k at old head body
    → here ≡ at + pad k
    → take here body' ≡ take at body ++ (if nat_eq (k % 16) 0 then width_row xs k else [])
    → take (24 + 20 * k) head' ≡ take (4 + 20 * k) head ++ entry xs k
    → take (here + 16 * w) body'' ≡ take here body' ++ packed_bytes w ds
    → ds ≡ differences_of k xs → w ≡ width_at k xs
    → BlocksPut xs (k + 1) (here + 16 * w) old head' body''
unfolding block_bytes
blocks_more xs k at here w old head head' body body' body'' ds b e row put packed d v =
    let row_k = if nat_eq (k % 16) 0 then width_row xs k else [] in
    let next : 4 + 20 * (k + 1) ≡ 24 + 20 * k = omega arith in
    let suc_k : k + 1 ≡ suc k = omega arith in
    let one = ap (λ n. widths_of n xs) suc_k ∙ widths_next k xs in
    let place = place_of xs k at old head body b in
    record {
      entries = ap (λ n. take n head') next ∙ put ∙ ap (λ ys. ys ++ entry xs k) b.entries ∙ append_assoc (take 4 old) (joined (entry xs) k) (entry xs k)
          ∙ ap (λ ys. take 4 old ++ ys) (sym (joined_more (entry xs) k));
      offset = omega (arith, e, place, v, one, length_pieces xs (k + 1));
      blocks = packed ∙ ap₂ (λ ys zs. ys ++ zs) (row ∙ ap (λ ys. ys ++ row_k) b.blocks) (ap₂ packed_bytes v d)
          ∙ append_assoc (joined (block_bytes xs) k) row_k (packed_bytes (width_at k xs) (differences_of k xs))
          ∙ sym (joined_more (block_bytes xs) k);
    }

pub blocks_all : (xs : List ℕ) (k at : ℕ) (old head body : List ℕ) → k ≡ length xs / 128 → BlocksPut xs k at old head body
    → (at ≡ length (body_of xs)) × (take at body ≡ body_of xs)
unfolding body_of
blocks_all xs k at old head body e b =
    let all = ap (joined (block_bytes xs)) e in
    (b.offset ∙ ap length all, b.blocks ∙ all)

pub length_parts : (xs : List ℕ) → length (spelling xs) ≡ length (head_of xs) + length (body_of xs) + length (tail_of xs)
unfolding spelling
length_parts xs = omega (arith, length-append (head_of xs) (body_of xs ++ tail_of xs), length-append (body_of xs) (tail_of xs))

pub tail_is : (xs tail : List ℕ) (before : ℕ) → tail ≡ drop (128 * (length xs / 128)) xs → before ≡ slice_index (0 ∷ xs) (128 * (length xs / 128))
    → tail_bytes before tail ≡ tail_of xs
unfolding tail_of
tail_is xs tail before e f = ap₂ tail_bytes f e

-- what a slice has room for that is as long as the spelling
pub record Room (xs : List ℕ) (head body : ℕ) : Type 0 where
  pub body_room : length (body_of xs) ≤ body
  pub whole : body ≡ length (body_of xs) + length (tail_of xs)

pub room_in : (xs : List ℕ) (n head body : ℕ) → n ≡ length (spelling xs) → head ≡ 4 + 20 * (length xs / 128) → body + head ≡ n → Room xs head body
room_in xs n head body e f g =
    let all = length_parts xs in
    let h = length_head xs in
    record { body_room = omega arith; whole = omega arith }

pub head_in : (xs : List ℕ) (n : ℕ) → n ≡ length (spelling xs) → 4 + 20 * (length xs / 128) ≤ n
head_in xs n e = omega (arith, length_parts xs, length_head xs)

-- head, metablocks and tail are the spelling
pub all_put : (xs tail head0 head1 head2 body1 body2 : List ℕ) (at before : ℕ)
    → take 4 head1 ≡ take 0 head0 ++ to_le_bytes w32 (length xs)
    → head2 ≡ take 4 head1 ++ joined (entry xs) (length xs / 128)
    → at ≡ length (body_of xs) → take at body1 ≡ body_of xs
    → take (at + length (tail_bytes before tail)) body2 ≡ take at body1 ++ tail_bytes before tail
    → tail_bytes before tail ≡ tail_of xs
    → length body2 ≡ length (body_of xs) + length (tail_of xs)
    → head2 ++ body2 ≡ spelling xs
unfolding head_of spelling
all_put xs tail head0 head1 head2 body1 body2 at before p q e b t s l =
    let whole : length body2 ≤ at + length (tail_bytes before tail) = omega (arith, ap length s) in
    let body : body2 ≡ body_of xs ++ tail_of xs = sym (take_all (at + length (tail_bytes before tail)) body2 whole) ∙ t ∙ ap₂ (λ ys zs. ys ++ zs) b s in
    ap₂ (λ ys zs. ys ++ zs) (q ∙ ap (λ ys. ys ++ joined (entry xs) (length xs / 128)) p) body
