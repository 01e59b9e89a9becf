-- A vector of four numbers, written into a slice.
use Rattle.std.proofs.Common.{rules, ◌≡◌, ℕ, ◌<◌, ◌≤◌, ◌+◌, ◌-◌, ◌*◌, ◌/◌, ◌%◌, ◌^◌, List, length, slice_index, get_or, arith, refl, ap, ◌∙◌, inl, inr}
use borrow.Rule.Slice.PartMut.{put_mid, mid_of}
use Rattle.std.specs.Simd.Lanes.{put_chunk}
use Rattle.std.proofs.lemmas.List.{places, get_or-replicate}
use Rattle.std.specs.Prelude.{replicate}
use Rattle.std.proofs.lemmas.Simd.{get_or-put_chunk_at, length-put_chunk}
use Rattle.std.proofs.lemmas.Bool.{cases_lt}
use Rattle.pk_lanes.specs.Packed.{Packed, bit, lane_bit}
use Rattle.pk_lanes.specs.Progress.{Unpacked}

-- xs, with the four numbers of ys from place a on
abbrev pub written : ℕ → ℕ → List ℕ → List ℕ → List ℕ
written a k xs ys = put_mid a k xs (put_chunk 0 (mid_of a k xs) ys)

pub written_before : (a k : ℕ) (xs ys : List ℕ) (i : ℕ) → i < a → a ≤ length xs → get_or (written a k xs ys) i 0 ≡ get_or xs i 0
written_before a k xs ys i h room = search (rules, places)

length_mid : (a k : ℕ) (xs : List ℕ) → a + k ≤ length xs → length (mid_of a k xs) ≡ k
length_mid a k xs room = search (rules, places)

mid_put : (a k : ℕ) (xs zs : List ℕ) (j : ℕ) → j < length zs → a ≤ length xs → get_or (put_mid a k xs zs) (a + j) 0 ≡ get_or zs j 0
mid_put a k xs zs j h room = search (rules, places)

pub written_here : (a k : ℕ) (xs ys : List ℕ) (j : ℕ) → j < length ys → length ys ≤ k → a + k ≤ length xs
    → get_or (written a k xs ys) (a + j) 0 ≡ get_or ys j 0
written_here a k xs ys j h fit room =
    let mid = length_mid a k xs room in
    let zero : j ≡ 0 + j = omega arith in
    mid_put a k xs (put_chunk 0 (mid_of a k xs) ys) j (omega (arith, length-put_chunk 0 (mid_of a k xs) ys)) (omega arith)
    ∙ ap (λ n. get_or (put_chunk 0 (mid_of a k xs) ys) n 0) zero ∙ get_or-put_chunk_at 0 (mid_of a k xs) ys j 0 h (omega arith)

-- one vector more of a block
pub unpacked_more : (bytes : List ℕ) (b k : ℕ) (xs ys : List ℕ) → k < 32 → length xs ≡ 128 → length ys ≡ 4
    → Unpacked bytes b k xs
    → ((c : ℕ) → c < 4 → slice_index ys c < 2 ^ b)
    → ((c j : ℕ) → c < 4 → j < b → bit (slice_index ys c) j ≡ lane_bit bytes c (k * b + j))
    → Unpacked bytes b (k + 1) (written (4 * k) (128 - 4 * k) xs ys)
unpacked_more bytes b k xs ys hk hx hy old small bits =
    let new = written (4 * k) (128 - 4 * k) xs ys in
    let here : (c : ℕ) → c < 4 → slice_index new (4 * k + c) ≡ slice_index ys c =
    λ c h. written_here (4 * k) (128 - 4 * k) xs ys c (omega arith) (omega arith) (omega arith) in
    let before : (i : ℕ) → i < 4 * k → slice_index new i ≡ slice_index xs i =
    λ i h. written_before (4 * k) (128 - 4 * k) xs ys i h (omega arith) in
    record {
      below = λ i h. elim (cases_lt i (4 * k)) [
        | inl l ↦ omega (arith, before i l, old.below i l)
        | inr r ↦ (let e : 4 * k + (i - 4 * k) ≡ i = omega arith in
            let g = rw e at (here (i - 4 * k) (omega arith)) in
            omega (arith, g, small (i - 4 * k) (omega arith)))
      ];
      bits = λ i j h hj. elim (cases_lt i (4 * k)) [
        | inl l ↦ ap (λ n. bit n j) (before i l) ∙ old.bits i j l hj
        | inr r ↦ (let e : 4 * k + (i - 4 * k) ≡ i = omega arith in
            let g = rw e at (here (i - 4 * k) (omega arith)) in
            let lane : i - 4 * k ≡ i % 4 = omega arith in
            let vector : k ≡ i / 4 = omega arith in
            ap (λ n. bit n j) g ∙ bits (i - 4 * k) j (omega arith) hj
            ∙ ap (λ c. lane_bit bytes c (k * b + j)) lane ∙ ap (λ m. lane_bit bytes (i % 4) (m * b + j)) vector)
      ];
    }

pub unpacked_none : (bytes : List ℕ) (b : ℕ) (xs : List ℕ) → Unpacked bytes b 0 xs
unpacked_none bytes b xs = record {
  below = λ i h. absurd (omega arith);
  bits = λ i j h hj. absurd (omega arith);
}

pub unpacked_all : (bytes : List ℕ) (b : ℕ) (xs : List ℕ) → length bytes ≡ 16 * b → length xs ≡ 128 → Unpacked bytes b 32 xs → Packed bytes b xs
unpacked_all bytes b xs size count all = record {
  size = size;
  count = count;
  below = λ i h. all.below i (omega arith);
  bits = λ i j h hj. all.bits i j (omega arith) hj;
}

pub packed_zeros : (bytes : List ℕ) → length bytes ≡ 0 → Packed bytes 0 (replicate 128 0)
packed_zeros bytes size = record {
  size = omega arith;
  count = refl;
  below = λ i h. omega (arith, get_or-replicate {A = ℕ} 128 i 0 0 h);
  bits = λ i j h hj. absurd (omega arith);
}

pub length_written : (a k : ℕ) (xs ys : List ℕ) → a + k ≡ length xs → length (written a k xs ys) ≡ length xs
length_written a k xs ys room =
    let mid = length_mid a k xs (omega arith) in
    let put = length-put_chunk 0 (mid_of a k xs) ys in
    let all : length (put_mid a k xs (put_chunk 0 (mid_of a k xs) ys)) ≡ a + length (put_chunk 0 (mid_of a k xs) ys) + (length xs - (a + k)) = search (rules, places) in
    omega (arith, all, put, mid)
