-- A list has one spelling.
use Rattle.std.proofs.Common.{◌≡◌, ℕ, zero, suc, ◌<◌, ◌≤◌, ◌+◌, ◌-◌, ◌*◌, ◌/◌, ◌%◌, inl, inr, List, length, drop, slice_index, arith, sym, ap, ◌∙◌, length-take}
use Rattle.std.proofs.lemmas.Bool.{cases_lt}
use Rattle.std.proofs.lemmas.List.{ext_get_or, get_or-drop, get_or_past}
use Rattle.pk_lanes.specs.Packed.{Packed}
use Rattle.pk_posting.specs.Posting.{word, Spells, base, offset, width, total, seed, block, part, tail_place, differences}
use Rattle.pk_posting.specs.Spelling.{AreBytes}
use Rattle.pk_posting.proofs.BlockLemmas.{Agree, get_part}
use Rattle.pk_lanes.proofs.CallerLemmas.{same_bytes}
use Rattle.pk_posting.proofs.EntryLemmas.{total_more}
use Rattle.pk_posting.proofs.WritingLemmas.{total_is, spelling_long}

word_byte : (a b : List ℕ) (at : ℕ) → AreBytes a → AreBytes b → word a at ≡ word b at → (i : ℕ) → i < 4 → slice_index a (at + i) ≡ slice_index b (at + i)
unfolding word
word_byte a b at f g e i h =
    let a0 = f at in let a1 = f (at + 1) in let a2 = f (at + 2) in let a3 = f (at + 3) in
    let b0 = g at in let b1 = g (at + 1) in let b2 = g (at + 2) in let b3 = g (at + 3) in
    let e0 : slice_index a at ≡ slice_index b at = omega arith in
    let e1 : slice_index a (at + 1) ≡ slice_index b (at + 1) = omega arith in
    let e2 : slice_index a (at + 2) ≡ slice_index b (at + 2) = omega arith in
    let e3 : slice_index a (at + 3) ≡ slice_index b (at + 3) = omega arith in
    elim (cases_lt i 1) [
      | inl l ↦ (let z : at + i ≡ at = omega arith in ap (slice_index a) z ∙ e0 ∙ ap (slice_index b) (sym z))
      | inr l ↦ elim (cases_lt i 2) [
        | inl m ↦ (let z : at + i ≡ at + 1 = omega arith in ap (slice_index a) z ∙ e1 ∙ ap (slice_index b) (sym z))
        | inr m ↦ elim (cases_lt i 3) [
          | inl n ↦ (let z : at + i ≡ at + 2 = omega arith in ap (slice_index a) z ∙ e2 ∙ ap (slice_index b) (sym z))
          | inr n ↦ (let z : at + i ≡ at + 3 = omega arith in ap (slice_index a) z ∙ e3 ∙ ap (slice_index b) (sym z))
        ]
      ]
    ]

-- what both spellings of a list have
pub record Both (a b xs : List ℕ) : Type 0 where
  pub first : Spells a xs
  pub second : Spells b xs
  pub bytes_a : AreBytes a
  pub bytes_b : AreBytes b

same_total : (a b xs : List ℕ) → Both a b xs → (k : ℕ) → k ≤ length xs / 128 → total a (length xs / 128) k ≡ total b (length xs / 128) k
same_total a b xs t k h = total_is a xs t.first k h ∙ sym (total_is b xs t.second k h)

same_offset : (a b xs : List ℕ) → Both a b xs → (k : ℕ) → k < length xs / 128 → offset a k ≡ offset b k
same_offset a b xs t k h = t.first.offsets k h ∙ ap (λ n. 16 * (k / 16 + 1) + 16 * n) (same_total a b xs t k (omega arith)) ∙ sym (t.second.offsets k h)

same_width : (a b xs : List ℕ) → Both a b xs → (k : ℕ) → k < length xs / 128 → width a (length xs / 128) k ≡ width b (length xs / 128) k
same_width a b xs t k h =
    let B = length xs / 128 in
    let p = same_total a b xs t k (omega arith) in
    let q = same_total a b xs t (k + 1) (omega arith) in
    omega (arith, p, q, total_more a B k, total_more b B k)

heads : (a b xs : List ℕ) → Both a b xs → Agree (4 + 20 * (length xs / 128)) a b
heads a b xs t p h = elim (cases_lt p 4) [
  | inl l ↦ (let z : 0 + p ≡ p = omega arith in
      ap (slice_index a) (sym z) ∙ word_byte a b 0 t.bytes_a t.bytes_b (t.first.count ∙ sym t.second.count) p l ∙ ap (slice_index b) z)
  | inr l ↦ (
      let k = (p - 4) / 20 in
      let r = (p - 4) % 20 in
      let in_k : k < length xs / 128 = omega arith in
      elim (cases_lt r 4) [
        | inl m ↦ (let z : 4 + 20 * k + r ≡ p = omega arith in
            ap (slice_index a) (sym z) ∙ word_byte a b (4 + 20 * k) t.bytes_a t.bytes_b (same_offset a b xs t k in_k) r m ∙ ap (slice_index b) z)
        | inr m ↦ (
            let c = (r - 4) / 4 in
            let in_c : c < 4 = omega arith in
            let z : 8 + 20 * k + 4 * c + (r - 4) % 4 ≡ p = omega arith in
            let w = (t.first.blocks k in_k).last c in_c ∙ sym ((t.second.blocks k in_k).last c in_c) in
            ap (slice_index a) (sym z) ∙ word_byte a b (8 + 20 * k + 4 * c) t.bytes_a t.bytes_b w ((r - 4) % 4) (omega arith) ∙ ap (slice_index b) z)
      ])
]

-- where the block k ends, or the metablock before it
abbrev pub reached : List ℕ → ℕ → ℕ → ℕ
reached a B k = base B + 16 * ((k + 15) / 16) + 16 * total a B k

part_bytes : (at n : ℕ) (xs : List ℕ) → AreBytes xs → AreBytes (part at n xs)
part_bytes at n xs f i = elim (cases_lt i n) [
  | inl l ↦ omega (arith, get_part at n xs i l, f (at + i))
  | inr l ↦ omega (arith, get_or_past (part at n xs) i 0 (omega (arith, length-take n (drop at xs))))
]

agree_to : (a b xs : List ℕ) → Both a b xs → (k : ℕ) → k ≤ length xs / 128 → Agree (reached a (length xs / 128) k) a b
unfolding total
agree_to a b xs t zero h p l = heads a b xs t p (omega arith)
agree_to a b xs t (suc k) h p l =
    let B = length xs / 128 in
    let in_k : k < B = omega arith in
    let off = t.first.offsets k in_k in
    elim (cases_lt p (reached a B k)) [
      | inl m ↦ agree_to a b xs t k (omega arith) p m
      | inr m ↦ elim (cases_lt p (base B + offset a k)) [
        | inl n ↦ (
            let j = p - reached a B k in
            let first : k % 16 ≡ 0 = omega arith in
            let small : j < 16 = omega arith in
            let f : 16 * ((k + j) / 16) ≡ k = omega arith in
            let in_j : (k + j) % 16 ≡ j = omega arith in
            let za : base B + (offset a (16 * ((k + j) / 16)) - 16) + (k + j) % 16 ≡ p = (let u = ap (offset a) f in omega (arith, u, off)) in
            let same = same_offset a b xs t k in_k in
            let zb : base B + (offset b (16 * ((k + j) / 16)) - 16) + (k + j) % 16 ≡ p = (let u = ap (offset b) f in omega (arith, u, off, same)) in
            let w : width a B (k + j) ≡ width b B (k + j) = elim (cases_lt (k + j) B) [
              | inl q ↦ same_width a b xs t (k + j) q
              | inr q ↦ t.first.padding (k + j) q (omega arith) ∙ sym (t.second.padding (k + j) q (omega arith))
            ] in
            ap (slice_index a) (sym za) ∙ w ∙ ap (slice_index b) zb)
        | inr n ↦ (
            let w = width a B k in
            let at = base B + offset a k in
            let ww = same_width a b xs t k in_k in
            let oo = same_offset a b xs t k in_k in
            let pa = (t.first.blocks k in_k).block.packed in
            let pb : Packed (part at (16 * w) b) w (differences (seed k xs) (block k xs)) = rw (ww, oo) ((t.second.blocks k in_k).block.packed) in
            let same = same_bytes (part at (16 * w) a) (part at (16 * w) b) w _ pa pb (part_bytes at (16 * w) a t.bytes_a) (part_bytes at (16 * w) b t.bytes_b) in
            let q : at + (p - at) ≡ p = omega arith in
            let inside : p - at < 16 * w = omega arith in
            ap (slice_index a) (sym q) ∙ sym (get_part at (16 * w) a (p - at) inside) ∙ ap (λ ys. slice_index ys (p - at)) same
            ∙ get_part at (16 * w) b (p - at) inside ∙ ap (slice_index b) q)
      ]
    ]

-- a list has one spelling
pub one_spelling : (a b xs : List ℕ) → Both a b xs → a ≡ b
one_spelling a b xs t =
    let B = length xs / 128 in
    let long = spelling_long a xs t.first ∙ sym (spelling_long b xs t.second) in
    let tot = same_total a b xs t B (omega arith) in
    let place : tail_place a B ≡ tail_place b B = omega (arith, tot) in
    let tails : drop (tail_place a B) a ≡ drop (tail_place a B) b = t.first.tail ∙ sym t.second.tail ∙ ap (λ n. drop n b) (sym place) in
    ext_get_or 0 a b long (λ i h. elim (cases_lt i (tail_place a B)) [
      | inl l ↦ agree_to a b xs t B (omega arith) i l
      | inr l ↦ (let q : tail_place a B + (i - tail_place a B) ≡ i = omega arith in
          ap (slice_index a) (sym q) ∙ sym (get_or-drop (tail_place a B) a (i - tail_place a B) 0) ∙ ap (λ ys. slice_index ys (i - tail_place a B)) tails
          ∙ get_or-drop (tail_place a B) b (i - tail_place a B) 0 ∙ ap (slice_index b) q)
    ])
