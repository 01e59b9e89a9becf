-- What was read, one block on; and why a refusal is right.
use Rattle.std.proofs.Common.{Bool, true, false, ◌≡◌, ℕ, zero, suc, ◌<◌, ◌≤◌, ◌+◌, ◌-◌, ◌*◌, ◌/◌, ◌%◌, inl, inr, List, [], ◌∷◌, ◌++◌, length, slice_index, arith, refl, sym, ap, ap₂, ◌∙◌, length-append, below_more}
use Rattle.std.proofs.lemmas.Bool.{cases_lt}
use Rattle.std.proofs.lemmas.List.{ext_get_or, get_or_append_left, get_or-append_right}
use Rattle.pk_posting.specs.Posting.{Block, BlockOf, Spells, base, offset, width, total, seed, block, tail_place}
use Rattle.pk_posting.specs.Reading.{Begun, Breaks, Gives, ReadTo}
use Rattle.pk_posting.proofs.BlockLemmas.{same_block, same_seed, get_seed, length_seed, seed_after, agree_append, block_appended, take_block, three_zeros, one_zero}
use Rattle.pk_posting.proofs.EntryLemmas.{total_more, total_rises, begins, widths_at, entry_of}

zeros : (c : ℕ) → slice_index (0 ∷ 0 ∷ 0 ∷ 0 ∷ []) c ≡ 0
zeros zero = refl
zeros (suc zero) = refl
zeros (suc (suc zero)) = refl
zeros (suc (suc (suc zero))) = refl
zeros (suc (suc (suc (suc c)))) = refl

pub read_none : (bytes : List ℕ) (B : ℕ) (before : List ℕ) (at widths : ℕ) → at ≡ base B → at ≤ length bytes → before ≡ 0 ∷ 0 ∷ 0 ∷ 0 ∷ []
    → ReadTo bytes B 0 [] before at widths
unfolding total
read_none bytes B before at widths e h s = record {
  long = refl;
  seed_is = s;
  order = λ i l. (let zero_at : (c : ℕ) → slice_index before c ≡ 0 = λ c. (ap (λ ys. slice_index ys c) s ∙ zeros c) in omega (arith, zero_at i, zero_at (i + 1)));
  here = omega arith;
  room = h;
  widths_is = λ l. absurd (omega arith);
  widths_room = λ l. absurd (omega arith);
  offsets = λ j l. absurd (omega arith);
  blocks = λ j l. absurd (omega arith);
  padding = λ j l m. absurd (omega arith);
  rising = λ i l. absurd (omega arith);
  below = λ i l. absurd (omega arith);
  only = λ xs p q. refl;
}

-- a block that was read stays read when the list grows
pub grown : (bytes : List ℕ) (B j k : ℕ) (out xs : List ℕ) → j < k → length out ≡ 128 * k → BlockOf bytes B j out → BlockOf bytes B j (out ++ xs)
grown bytes B j k out xs h l b =
    let seeds : seed j out ≡ seed j (out ++ xs) = sym (same_seed j (out ++ xs) out (agree_append (128 * j) out xs (omega arith)) (omega (arith, length-append out xs)) (omega arith)) in
    let blocks : block j out ≡ block j (out ++ xs) = sym (same_block j (out ++ xs) out (agree_append (128 * j + 128) out xs (omega arith)) (omega (arith, length-append out xs)) (omega arith)) in
    record {
      last = λ c m. b.last c m ∙ sym (get_or_append_left out xs 0 (128 * j + 124 + c) (omega arith));
      small = b.small;
      block = rw (seeds, blocks) at b.block;
    }

same_good : (bytes : List ℕ) (a1 a2 b1 b2 : ℕ) (s1 s2 x1 x2 : List ℕ) → a1 ≡ a2 → b1 ≡ b2 → s1 ≡ s2 → x1 ≡ x2 → Block bytes a1 b1 s1 x1 → Block bytes a2 b2 s2 x2
same_good bytes a1 a2 b1 b2 s1 s2 x1 x2 e f g h t = rw (← e, ← f, ← g, ← h) t

pub read_more : (bytes : List ℕ) (B k : ℕ) (out before : List ℕ) (old_at old_widths at widths : ℕ) (xs after : List ℕ) → k < B
    → ReadTo bytes B k out before old_at old_widths → Begun bytes B k old_at old_widths at widths → Gives bytes B k at widths before xs
    → length after ≡ 4 → ((c : ℕ) → c < 4 → slice_index after c ≡ slice_index xs (124 + c))
    → ((ys : List ℕ) → Gives bytes B k at widths before ys → xs ≡ ys)
    → ReadTo bytes B (k + 1) (out ++ xs) after (at + 16 * slice_index bytes (widths + k % 16)) widths
read_more bytes B k out before old_at old_widths at widths xs after h r b g four ends unique =
    let place = begins bytes B k out before old_at old_widths at widths r b in
    let there : base B + offset bytes k ≡ at = (let o = g.offset in omega arith) in
    let own : offset bytes k ≡ 16 * (k / 16 + 1) + 16 * total bytes B k = omega arith in
    let ws = widths_at bytes B k out before old_at old_widths at widths r b g.offset in
    let w : width bytes B k ≡ slice_index bytes (widths + k % 16) = ap (λ n. slice_index bytes (n + k % 16)) (sym ws) in
    let long : length (out ++ xs) ≡ 128 * (k + 1) = (let l = g.good.long in let m = r.long in omega (arith, length-append out xs)) in
    let seeds : before ≡ seed k (out ++ xs) = r.seed_is ∙ sym (same_seed k (out ++ xs) out (agree_append (128 * k) out xs (omega (arith, r.long))) (omega arith) (omega (arith, r.long))) in
    let blocked : xs ≡ block k (out ++ xs) = sym (block_appended k out xs r.long g.good.long) in
    let low : (i : ℕ) → i < 128 * k → slice_index (out ++ xs) i ≡ slice_index out i = λ i l. get_or_append_left out xs 0 i (omega (arith, r.long)) in
    let high : (i : ℕ) → 128 * k ≤ i → slice_index (out ++ xs) i ≡ slice_index xs (i - 128 * k) = λ i l. get_or-append_right out xs (128 * k) i 0 r.long l in
    let low_zero : (i : ℕ) → i < 128 * k → slice_index (0 ∷ (out ++ xs)) i ≡ slice_index (0 ∷ out) i = λ i l. elim (cases_lt 0 i) [
      | inl m ↦ (let one : 1 + (i - 1) ≡ i = omega arith in
          rw one at (one_zero (out ++ xs) (i - 1) ∙ low (i - 1) (omega arith) ∙ sym (one_zero out (i - 1))))
      | inr n ↦ (let z : i ≡ 0 = omega arith in ap (slice_index (0 ∷ (out ++ xs))) z ∙ ap (slice_index (0 ∷ out)) (sym z))
    ] in
    let up : (i : ℕ) → i < 128 → slice_index (0 ∷ (out ++ xs)) (128 * k + i) < slice_index xs i = λ i l. elim (cases_lt 0 i) [
      | inl m ↦ (
          let t = g.good.rises.step i l in
          let long_before : length before ≡ 4 = ap length r.seed_is ∙ length_seed k out (omega (arith, r.long)) in
          let p : 3 + i - 4 ≡ i - 1 = omega arith in
          let a = get_or-append_right before xs 4 (3 + i) 0 long_before (omega arith) ∙ ap (slice_index xs) p in
          let one : 1 + (128 * k + (i - 1)) ≡ 128 * k + i = omega arith in
          let z = rw one at (one_zero (out ++ xs) (128 * k + (i - 1))) in
          let q : 128 * k + (i - 1) - 128 * k ≡ i - 1 = omega arith in
          let y = high (128 * k + (i - 1)) (omega arith) ∙ ap (slice_index xs) q in
          omega (arith, t, a, z, y))
      | inr n ↦ (
          let i0 : i ≡ 0 = omega arith in
          let t = g.good.rises.step i l in
          let three : 3 + i ≡ 3 = omega arith in
          let long_before : length before ≡ 4 = ap length r.seed_is ∙ length_seed k out (omega (arith, r.long)) in
          let p : 128 * k + 3 ≡ 3 + 128 * k = omega arith in
          let a = ap (slice_index (before ++ xs)) three ∙ get_or_append_left before xs 0 3 (omega arith) ∙ ap (λ ys. slice_index ys 3) seeds ∙ get_seed k (out ++ xs) 3 (omega arith)
          ∙ ap (slice_index (0 ∷ 0 ∷ 0 ∷ 0 ∷ (out ++ xs))) p ∙ three_zeros (out ++ xs) (128 * k) in
          let q : 128 * k + i ≡ 128 * k = omega arith in
          let z = ap (slice_index (0 ∷ (out ++ xs))) q in
          omega (arith, t, a, z))
    ] in
    let blocks_k : Block bytes (base B + offset bytes k) (width bytes B k) (seed k (out ++ xs)) (block k (out ++ xs)) =
    same_good bytes at (base B + offset bytes k) (slice_index bytes (widths + k % 16)) (width bytes B k) before (seed k (out ++ xs)) xs (block k (out ++ xs))
    (sym there) (sym w) seeds blocked g.good.block in
    let own_block : BlockOf bytes B k (out ++ xs) = record {
      last = λ c n. (let p : 128 * k + 124 + c - 128 * k ≡ 124 + c = omega arith in
          g.last c n ∙ sym (high (128 * k + 124 + c) (omega arith) ∙ ap (slice_index xs) p));
      small = rw w g.good.small;
      block = blocks_k;
    } in
    record {
      long = long;
      seed_is = ext_get_or 0 after (seed (k + 1) (out ++ xs)) (four ∙ sym (length_seed (k + 1) (out ++ xs) (omega arith))) (λ c l.
          let m : c < 4 = omega arith in ends c m ∙ sym (seed_after k out xs c r.long m));
      order = λ i l. (
          let s = up (125 + i) (omega arith) in
          let one : 1 + (128 * k + (124 + i)) ≡ 128 * k + (125 + i) = omega arith in
          let z = rw one at (one_zero (out ++ xs) (128 * k + (124 + i))) in
          let q : 128 * k + (124 + i) - 128 * k ≡ 124 + i = omega arith in
          let y = high (128 * k + (124 + i)) (omega arith) ∙ ap (slice_index xs) q in
          let e = ends i (omega arith) in
          let next : 124 + (i + 1) ≡ 125 + i = omega arith in
          let f = ends (i + 1) (omega arith) ∙ ap (slice_index xs) next in
          omega (arith, s, z, y, e, f));
      here = (let t = total_more bytes B k in omega (arith, t, w, place));
      room = g.good.room;
      widths_is = λ l. (let e : 16 * ((k + 1) / 16) ≡ 16 * (k / 16) = omega arith in ws ∙ ap (λ n. base B + (offset bytes n - 16)) (sym e));
      widths_room = λ l. b.widths_room;
      offsets = below_more _ _ r.offsets own;
      blocks = λ j l. elim (cases_lt j k) [
        | inl m ↦ grown bytes B j k out xs m r.long (r.blocks j m)
        | inr m ↦ (let e : k ≡ j = omega arith in rw e at own_block)
      ];
      padding = λ j l m. elim (cases_lt (16 * (j / 16)) k) [
        | inl n ↦ r.padding j l n
        | inr n ↦ (
            let e : 16 * (j / 16) ≡ k = omega arith in
            let first : k % 16 ≡ 0 = omega arith in
            let z = b.zeros first (j % 16) (omega arith) (omega arith) in
            let f = b.first_widths first in
            let same : 16 * (k / 16) ≡ k = omega arith in
            let o = ap (offset bytes) same in
            let v : base B + (offset bytes (16 * (j / 16)) - 16) + j % 16 ≡ old_at + j % 16 = (let u = ap (offset bytes) e in omega (arith, u, o, ws, f)) in
            ap (slice_index bytes) v ∙ z)
      ];
      rising = λ i l. elim (cases_lt i (128 * k)) [
        | inl m ↦ omega (arith, low_zero i m, low i m, r.rising i m)
        | inr m ↦ (let e : 128 * k + (i - 128 * k) ≡ i = omega arith in
            let u = rw e at (up (i - 128 * k) (omega arith)) in
            omega (arith, u, high i m))
      ];
      below = λ i l. elim (cases_lt i (128 * k)) [
        | inl m ↦ omega (arith, low i m, r.below i m)
        | inr m ↦ omega (arith, high i m, g.good.below (i - 128 * k) (omega arith))
      ];
      only = λ ys s e. (
          let given = entry_of bytes B k out before old_at old_widths at widths h r b ys s e in
          take_block k ys (omega arith) ∙ ap₂ (λ a c. a ++ c) (r.only ys s e) (sym (unique (block k ys) given)));
    }

-- no list is spelled where a metablock can't begin
pub not_begun : (bytes : List ℕ) (B k : ℕ) (out before : List ℕ) (at widths : ℕ) → k < B → ReadTo bytes B k out before at widths → Breaks bytes B k at
    → (xs : List ℕ) → Spells bytes xs → length xs / 128 ≡ B → ⊥
not_begun bytes B k out before at widths h r b xs s e =
    let here = r.here in
    let first = b.first in
    let rest : k + (B - k) ≡ B = omega arith in
    let rises = rw rest at (total_rises bytes B k (B - k)) in
    let whole : tail_place bytes B ≤ length bytes = rw e at s.whole in
    let own : offset bytes k ≡ 16 * (k / 16 + 1) + 16 * total bytes B k = rw e at (s.offsets k (omega arith)) in
    b.broken (omega arith) (λ j l m. (
    let z : width bytes B (k + j) ≡ 0 = rw e at (s.padding (k + j) (omega arith) (omega arith)) in
    let f : 16 * ((k + j) / 16) ≡ k = omega arith in
    let u = ap (offset bytes) f in
    let v : at + j ≡ base B + (offset bytes (16 * ((k + j) / 16)) - 16) + (k + j) % 16 = omega (arith, u, own, here, first) in
    ap (slice_index bytes) v ∙ z))

pub four_of : (xs : List ℕ) (c : ℕ) → c < 4
    → slice_index (slice_index xs 124 ∷ slice_index xs 125 ∷ slice_index xs 126 ∷ slice_index xs 127 ∷ []) c ≡ slice_index xs (124 + c)
four_of xs zero h = refl
four_of xs (suc zero) h = refl
four_of xs (suc (suc zero)) h = refl
four_of xs (suc (suc (suc zero))) h = refl
four_of xs (suc (suc (suc (suc c)))) h = absurd (omega arith)

pub false_is : (b : Bool) → b ≡ true → b ≡ false → ⊥
false_is b p q = cc
