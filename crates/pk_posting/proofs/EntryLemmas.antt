-- One block more.
use Rattle.std.proofs.Common.{◌≡◌, ℕ, zero, suc, ◌<◌, ◌≤◌, ◌+◌, ◌-◌, ◌*◌, ◌/◌, ◌%◌, inl, inr, List, ◌∷◌, ◌++◌, length, drop, slice_index, arith, sym, ap, ◌∙◌, length-take, length-drop}
use Rattle.std.proofs.lemmas.Bool.{cases_lt}
use Rattle.std.proofs.lemmas.List.{get_or_append_left, get_or-append_right}
use Rattle.pk_posting.specs.Posting.{Block, BlockOf, Spells, base, offset, width, total, seed, block}
use Rattle.pk_posting.specs.Reading.{Begun, Gives, ReadTo}
use Rattle.pk_posting.proofs.BlockLemmas.{same_seed, length_part, get_part, get_seed, length_seed, agree_take, three_zeros, one_zero}

pub total_more : (bytes : List ℕ) (B k : ℕ) → total bytes B (k + 1) ≡ total bytes B k + width bytes B k
unfolding total
total_more bytes B k = let e : k + 1 ≡ suc k = omega arith in ap (total bytes B) e

pub total_rises : (bytes : List ℕ) (B k n : ℕ) → total bytes B k ≤ total bytes B (k + n)
total_rises bytes B k zero = (let e : k + 0 ≡ k = omega arith in omega (arith, ap (total bytes B) e))
total_rises bytes B k (suc n) =
    let e : k + suc n ≡ k + n + 1 = omega arith in
    omega (arith, ap (total bytes B) e, total_more bytes B (k + n), total_rises bytes B k n)

-- where block k begins
pub begins : (bytes : List ℕ) (B k : ℕ) (out before : List ℕ) (old_at old_widths at widths : ℕ) → ReadTo bytes B k out before old_at old_widths
    → Begun bytes B k old_at old_widths at widths → at ≡ base B + 16 * (k / 16 + 1) + 16 * total bytes B k
begins bytes B k out before old_at old_widths at widths r b = elim (cases_lt 0 (k % 16)) [
  | inl l ↦ (let a = b.later_at l in let h = r.here in omega arith)
  | inr z ↦ (let a = b.first_at (omega arith) in let h = r.here in omega arith)
]

-- the widths of the metablock of block k, once its entry is right
pub widths_at : (bytes : List ℕ) (B k : ℕ) (out before : List ℕ) (old_at old_widths at widths : ℕ) → ReadTo bytes B k out before old_at old_widths
    → Begun bytes B k old_at old_widths at widths → offset bytes k + base B ≡ at → widths ≡ base B + (offset bytes (16 * (k / 16)) - 16)
widths_at bytes B k out before old_at old_widths at widths r b o = elim (cases_lt 0 (k % 16)) [
  | inl l ↦ (let a = b.later_widths l in let h = r.widths_is l in omega arith)
  | inr z ↦ (let a = b.first_widths (omega arith) in
      let c = b.first_at (omega arith) in
      let e : 16 * (k / 16) ≡ k = omega arith in
      let f = ap (offset bytes) e in
      let h = r.here in
      omega (arith, f))
]

-- a list that is spelled gives its block
pub entry_of : (bytes : List ℕ) (B k : ℕ) (out before : List ℕ) (old_at old_widths at widths : ℕ) → k < B → ReadTo bytes B k out before old_at old_widths
    → Begun bytes B k old_at old_widths at widths → (xs : List ℕ) → Spells bytes xs → length xs / 128 ≡ B → Gives bytes B k at widths before (block k xs)
entry_of bytes B k out before old_at old_widths at widths h r b xs s e =
    let some : k < length xs / 128 = omega arith in
    let place = begins bytes B k out before old_at old_widths at widths r b in
    let own : offset bytes k ≡ 16 * (k / 16 + 1) + 16 * total bytes B k = rw e at (s.offsets k some) in
    let here : offset bytes k + base B ≡ at = omega arith in
    let there : base B + offset bytes k ≡ at = omega arith in
    let ws = widths_at bytes B k out before old_at old_widths at widths r b here in
    let w : width bytes B k ≡ slice_index bytes (widths + k % 16) = ap (λ n. slice_index bytes (n + k % 16)) (sym ws) in
    let of : BlockOf bytes B k xs = rw e at (s.blocks k some) in
    let room : 128 * k + 128 ≤ length xs = omega arith in
    let seeds : seed k xs ≡ before = same_seed k xs out (agree_take (128 * k) xs out (r.only xs s e)) (omega arith) (omega (arith, r.long)) ∙ sym r.seed_is in
    let blocked : Block bytes at (slice_index bytes (widths + k % 16)) before (block k xs) = rw (w, there, seeds) at of.block in
    let get : (i : ℕ) → i < 128 → slice_index (block k xs) i ≡ slice_index xs (128 * k + i) = λ i l. get_part (128 * k) 128 xs i l in
    let long = length_part (128 * k) 128 xs room in
    record {
      offset = here;
      last = λ c l. (let p : 128 * k + (124 + c) ≡ 128 * k + 124 + c = omega arith in
          of.last c l ∙ ap (slice_index xs) (sym p) ∙ sym (get (124 + c) (omega arith)));
      good = record {
        small = rw w at of.small;
        room = elim (cases_lt 0 (slice_index bytes (widths + k % 16))) [
          | inl m ↦ (let size = blocked.packed.size in
              omega (arith, size, length-take (16 * slice_index bytes (widths + k % 16)) (drop at bytes), length-drop at bytes, b.room))
          | inr z ↦ omega (arith, b.room)
        ];
        long = long;
        below = λ i l. (let v = get i l in let u = s.posting.below (128 * k + i) (omega arith) in omega (arith, v, u));
        rises = record {
          step = λ i l. elim (cases_lt 0 i) [
            | inl m ↦ (
                let p : 4 + (i - 1) ≡ 3 + i = omega arith in
                let q : 128 * k + (i - 1) + 1 ≡ 128 * k + i = omega arith in
                let four : length before ≡ 4 = ap length (sym seeds) ∙ length_seed k xs (omega arith) in
                let t : 3 + i - 4 ≡ i - 1 = omega arith in
                let a = get_or-append_right before (block k xs) 4 (3 + i) 0 four (omega arith) ∙ ap (slice_index (block k xs)) t ∙ get (i - 1) (omega arith) in
                let v = get i l in
                let one : 1 + (128 * k + (i - 1)) ≡ 128 * k + i = omega arith in
                let z = rw one at (one_zero xs (128 * k + (i - 1))) in
                let u = s.posting.rising (128 * k + i) (omega arith) in
                omega (arith, a, v, z, u))
            | inr n ↦ (
                let i0 : i ≡ 0 = omega arith in
                let four : length before ≡ 4 = ap length (sym seeds) ∙ length_seed k xs (omega arith) in
                let three : 3 + i ≡ 3 = omega arith in
                let a = ap (slice_index (before ++ block k xs)) three ∙ get_or_append_left before (block k xs) 0 3 (omega arith) ∙ ap (λ ys. slice_index ys 3) (sym seeds) ∙ get_seed k xs 3 (omega arith) in
                let p : 128 * k + 3 ≡ 3 + 128 * k = omega arith in
                let c = ap (slice_index (0 ∷ 0 ∷ 0 ∷ 0 ∷ xs)) p ∙ three_zeros xs (128 * k) in
                let v = get i l in
                let q : 128 * k + i ≡ 128 * k = omega arith in
                let w = ap (slice_index xs) q in
                let u = s.posting.rising (128 * k) (omega arith) in
                omega (arith, a, c, v, w, u))
          ];
        };
        block = blocked;
      };
    }
