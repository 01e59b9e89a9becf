-- One part after another, written into a slice.
use Rattle.std.proofs.Common.{◌≡◌, ℕ, ◌<◌, ◌≤◌, ◌+◌, ◌*◌, inl, inr, List, ◌++◌, length, take, slice_index, arith, sym, ap, ◌∙◌}
use borrow.Rule.Slice.PartMut.{put_mid, post_of}
use Rattle.std.specs.Int.{w32, to_le_bytes}
use Rattle.std.proofs.lemmas.Bool.{cases_lt}
use Rattle.std.proofs.lemmas.List.{append_assoc, get_or_append_left, get_or-append-add, get_or_past}
use Rattle.std.proofs.lemmas.List.FromFn.{fill_by_all}
use Rattle.std.proofs.lemmas.Slice.{take-put_mid}
use Rattle.pk_lanes.specs.Packed.{Packed}
use Rattle.pk_posting.specs.Spelling.{packed_bytes, entry, offset_of, width_byte, width_row}
use Rattle.pk_posting.proofs.PackedLemmas.{packed_is}

-- what was written into a part of bytes is bytes
mid_bytes : (a k : ℕ) (xs ys : List ℕ) → ((i : ℕ) → slice_index (put_mid a k xs ys) i < 256) → (i : ℕ) → slice_index ys i < 256
mid_bytes a k xs ys f i = elim (cases_lt i (length ys)) [
  | inl l ↦ (let e = get_or-append-add (take a xs) (ys ++ post_of a k xs) i 0 ∙ get_or_append_left ys (post_of a k xs) 0 i l in
      omega (arith, e, f (length (take a xs) + i)))
  | inr m ↦ omega (arith, get_or_past ys i 0 m)
]

pub packed_put : (at k w : ℕ) (out packed ds : List ℕ) → at ≤ length out → ((i : ℕ) → slice_index (put_mid at k out packed) i < 256) → Packed packed w ds
    → take (at + 16 * w) (put_mid at k out packed) ≡ take at out ++ packed_bytes w ds
packed_put at k w out packed ds h f p =
    take-put_mid at k out packed (at + 16 * w) (omega (arith, p.size)) h ∙ ap (λ ys. take at out ++ ys) (packed_is packed w ds (mid_bytes at k out packed f) p)

five_put : (at : ℕ) (h0 h1 h2 h3 h4 h5 a b c d e : List ℕ) → take (at + 4) h1 ≡ take at h0 ++ a → take (at + 4 + 4) h2 ≡ take (at + 4) h1 ++ b
    → take (at + 8 + 4) h3 ≡ take (at + 8) h2 ++ c → take (at + 12 + 4) h4 ≡ take (at + 12) h3 ++ d → take (at + 16 + 4) h5 ≡ take (at + 16) h4 ++ e
    → take (at + 20) h5 ≡ take at h0 ++ (a ++ (b ++ (c ++ (d ++ e))))
five_put at h0 h1 h2 h3 h4 h5 a b c d e p q r s t =
    let eight : at + 4 + 4 ≡ at + 8 = omega arith in
    let twelve : at + 8 + 4 ≡ at + 12 = omega arith in
    let sixteen : at + 12 + 4 ≡ at + 16 = omega arith in
    let twenty : at + 20 ≡ at + 16 + 4 = omega arith in
    let u = ap (λ n. take n h5) twenty ∙ t
    ∙ ap (λ ys. ys ++ e) (ap (λ n. take n h4) (sym sixteen) ∙ s
    ∙ ap (λ ys. ys ++ d) (ap (λ n. take n h3) (sym twelve) ∙ r
    ∙ ap (λ ys. ys ++ c) (ap (λ n. take n h2) (sym eight) ∙ q
    ∙ ap (λ ys. ys ++ b) p))) in
    u ∙ append_assoc (((take at h0 ++ a) ++ b) ++ c) d e
    ∙ append_assoc ((take at h0 ++ a) ++ b) c (d ++ e)
    ∙ append_assoc (take at h0 ++ a) b (c ++ (d ++ e))
    ∙ append_assoc (take at h0) a (b ++ (c ++ (d ++ e)))

pub entry_put : (xs : List ℕ) (k at offset last : ℕ) (h0 h1 h2 h3 h4 h5 : List ℕ) → at ≡ 4 + 20 * k → last ≡ 128 * k + 124 → offset ≡ offset_of k xs
    → take (at + 4) h1 ≡ take at h0 ++ to_le_bytes w32 offset
    → take (at + 4 + 4) h2 ≡ take (at + 4) h1 ++ to_le_bytes w32 (slice_index xs last)
    → take (at + 8 + 4) h3 ≡ take (at + 8) h2 ++ to_le_bytes w32 (slice_index xs (last + 1))
    → take (at + 12 + 4) h4 ≡ take (at + 12) h3 ++ to_le_bytes w32 (slice_index xs (last + 2))
    → take (at + 16 + 4) h5 ≡ take (at + 16) h4 ++ to_le_bytes w32 (slice_index xs (last + 3))
    → take (24 + 20 * k) h5 ≡ take (4 + 20 * k) h0 ++ entry xs k
unfolding entry
entry_put xs k at offset last h0 h1 h2 h3 h4 h5 e f g p q r s t =
    let end : 24 + 20 * k ≡ at + 20 = omega arith in
    let x1 : last + 1 ≡ 128 * k + 125 = omega arith in
    let x2 : last + 2 ≡ 128 * k + 126 = omega arith in
    let x3 : last + 3 ≡ 128 * k + 127 = omega arith in
    ap (λ n. take n h5) end
    ∙ five_put at h0 h1 h2 h3 h4 h5 (to_le_bytes w32 (offset_of k xs)) (to_le_bytes w32 (slice_index xs (128 * k + 124))) (to_le_bytes w32 (slice_index xs (128 * k + 125)))
    (to_le_bytes w32 (slice_index xs (128 * k + 126))) (to_le_bytes w32 (slice_index xs (128 * k + 127)))
    (p ∙ ap (λ n. take at h0 ++ to_le_bytes w32 n) g)
    (q ∙ ap (λ n. take (at + 4) h1 ++ to_le_bytes w32 (slice_index xs n)) f)
    (r ∙ ap (λ n. take (at + 8) h2 ++ to_le_bytes w32 (slice_index xs n)) x1)
    (s ∙ ap (λ n. take (at + 12) h3 ++ to_le_bytes w32 (slice_index xs n)) x2)
    (t ∙ ap (λ n. take (at + 16) h4 ++ to_le_bytes w32 (slice_index xs n)) x3)
    ∙ ap (λ n. take n h0 ++ entry xs k) e

pub row_is : (xs : List ℕ) (k : ℕ) (widths : List ℕ) → length widths ≡ 16 → ((j : ℕ) → j < 16 → slice_index widths j ≡ width_byte xs (k + j)) → widths ≡ width_row xs k
unfolding width_row
row_is xs k widths h f = fill_by_all (λ j. width_byte xs (k + j)) widths 16 0 h f
