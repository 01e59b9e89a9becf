-- A place of a source has the blocks of one list, wherever that list is said to end.
use Rattle.std.proofs.Common.{◌≡◌, ◌∷◌, ℕ, ◌<◌, ◌≤◌, ◌+◌, ◌-◌, ◌*◌, ◌/◌, ◌%◌, inl, inr, List, length, take, drop, slice_index, refl, sym, ap, ◌∙◌, arith}
use Rattle.std.proofs.lemmas.Bool.{cases_lt}
use Rattle.std.proofs.lemmas.List.{ext_get_or, get_or-take, length-take}
use Rattle.pk_lanes.proofs.CallerLemmas.{same_numbers}
use Rattle.pk_lanes.specs.Differences.{Restores}
use Rattle.pk_lanes.specs.Packed.{Packed}
use Rattle.pk_posting.specs.declared.fields.ListPlace.{ListPlace}
use Rattle.pk_posting.specs.declared.fields.Shape.{Shape}
use Rattle.pk_posting.specs.Parts.{HasShape, bytes_at}
use Rattle.pk_posting.specs.Posting.{IsRightBlock, Spells, base, block, differences, offset, part, seed, tail_place, total, width, word}
use Rattle.pk_posting.proofs.BlockLemmas.{Agree, agree_zeros, four_zeros, get_part, get_seed, length_part, length_seed}
use Rattle.pk_posting.proofs.DifferenceLemmas.{Orders, restores_differences, same_restored}
use Rattle.pk_posting.proofs.EntryLemmas.{total_rises}
use Rattle.pk_posting.proofs.PartLemmas.{right_block}
use Rattle.pk_posting.proofs.RisingLemmas.{orders_at}
use Rattle.pk_posting.proofs.SpellingLemmas.{word_same}

-- two lists stand at the start of bytes of which the first are a front
pub record Fronts (P Q xs ys : List ℕ) : Type 0 where
  pub agree : Agree (length P) P Q
  pub first : Spells P xs
  pub second : Spells Q ys

-- the parts of the bytes that spell a list
abbrev parts_of : List ℕ → List ℕ → Shape
parts_of bytes xs = record { count = length xs; blocks = length xs / 128; tail = tail_place bytes (length xs / 128) }

has_parts : (bytes xs : List ℕ) → Spells bytes xs → HasShape bytes (parts_of bytes xs) xs
has_parts bytes xs s = record { spelled = s; count = refl; blocks = refl; tail = refl }

word_front : (P Q : List ℕ) (at : ℕ) → Agree (length P) P Q → at + 4 ≤ length P → word P at ≡ word Q at
word_front P Q at f h = word_same P Q at at (λ i m. f (at + i) (omega arith))

-- they are as long
pub same_length : (P Q xs ys : List ℕ) → Fronts P Q xs ys → length xs ≡ length ys
same_length P Q xs ys t =
    let w = t.first.whole in
    sym t.first.count ∙ word_front P Q 0 t.agree (omega arith) ∙ t.second.count

same_offset : (P Q xs ys : List ℕ) (k : ℕ) → Fronts P Q xs ys → k < length xs / 128 → offset P k ≡ offset Q k
same_offset P Q xs ys k t h =
    let w = t.first.whole in
    word_front P Q (4 + 20 * k) t.agree (omega arith)

-- the width of a block stands before the tail
width_inside : (P xs : List ℕ) (k : ℕ) → Spells P xs → k < length xs / 128
    → base (length xs / 128) + (offset P (16 * (k / 16)) - 16) + k % 16 < length P
width_inside P xs k s h =
    let B = length xs / 128 in
    let j = 16 * (k / 16) in
    let own = s.offsets j (omega arith) in
    let rest : j + (B - j) ≡ B = omega arith in
    let up : total P B j ≤ total P B B = rw rest at (total_rises P B j (B - j)) in
    let w = s.whole in
    omega (arith, own, up, w)

same_width : (P Q xs ys : List ℕ) (k : ℕ) → Fronts P Q xs ys → k < length xs / 128 → width P (length xs / 128) k ≡ width Q (length xs / 128) k
same_width P Q xs ys k t h =
    let B = length xs / 128 in
    let e = same_offset P Q xs ys (16 * (k / 16)) t (omega arith) in
    t.agree (base B + (offset P (16 * (k / 16)) - 16) + k % 16) (width_inside P xs k t.first h)
    ∙ ap (λ (n : ℕ). slice_index Q (base B + (n - 16) + k % 16)) e

-- a number before a block, from the entry of the block before it
number_before : (P xs : List ℕ) (k c : ℕ) → Spells P xs → 0 < k → k < length xs / 128 → c < 4 → slice_index (seed k xs) c ≡ word P (8 + 20 * (k - 1) + 4 * c)
number_before P xs k c s some h m =
    let there : 128 * k + c ≡ 4 + (128 * (k - 1) + 124 + c) = omega arith in
    let of = s.blocks (k - 1) (omega arith) in
    get_seed k xs c m ∙ ap (slice_index (0 ∷ 0 ∷ 0 ∷ 0 ∷ xs)) there ∙ four_zeros xs (128 * (k - 1) + 124 + c) ∙ sym (of.last c m)

same_seed : (P Q xs ys : List ℕ) (k : ℕ) → Fronts P Q xs ys → k < length xs / 128 → seed k xs ≡ seed k ys
same_seed P Q xs ys k t h =
    let long = same_length P Q xs ys t in
    let w = t.first.whole in
    ext_get_or 0 (seed k xs) (seed k ys) (length_seed k xs (omega arith) ∙ sym (length_seed k ys (omega (arith, long)))) (λ c m.
    let n : c < 4 = omega (arith, length_seed k xs (omega arith)) in
    elim (cases_lt 0 k) [
      | inl some ↦ number_before P xs k c t.first some h n ∙ word_front P Q (8 + 20 * (k - 1) + 4 * c) t.agree (omega arith)
          ∙ sym (number_before Q ys k c t.second some (omega (arith, long)) n)
      | inr none ↦ (let at : 128 * k + c ≡ c = omega arith in
          get_seed k xs c n ∙ ap (slice_index (0 ∷ 0 ∷ 0 ∷ 0 ∷ xs)) at ∙ agree_zeros 0 xs ys (λ i l. absurd (omega arith)) c n
          ∙ sym (get_seed k ys c n ∙ ap (slice_index (0 ∷ 0 ∷ 0 ∷ 0 ∷ ys)) at))
    ])

same_part : (P Q : List ℕ) (at n : ℕ) → Agree (length P) P Q → at + n ≤ length P → at + n ≤ length Q → part at n P ≡ part at n Q
same_part P Q at n f h m = ext_get_or 0 (part at n P) (part at n Q) (length_part at n P h ∙ sym (length_part at n Q m)) (λ i l.
    let k : i < n = omega (arith, length_part at n P h) in
    get_part at n P i k ∙ f (at + i) (omega arith) ∙ sym (get_part at n Q i k))

-- they have the same blocks
pub same_block_of : (P Q xs ys : List ℕ) (k : ℕ) → Fronts P Q xs ys → k < length xs / 128 → block k xs ≡ block k ys
same_block_of P Q xs ys k t h =
    let B = length xs / 128 in
    let long = same_length P Q xs ys t in
    let at = base B + offset P k in
    let b = width P B k in
    let before = seed k xs in
    let one : IsRightBlock P at b before (block k xs) = right_block P (parts_of P xs) xs k (has_parts P xs t.first) h t.first.whole in
    let other : IsRightBlock Q at b before (block k ys) =
    rw (same_width P Q xs ys k t h, same_offset P Q xs ys k t h, same_seed P Q xs ys k t h, long)
    (right_block Q (parts_of Q ys) ys k (has_parts Q ys t.second) (omega (arith, long)) t.second.whole) in
    let packed : Packed (part at (16 * b) P) b (differences before (block k ys)) =
    rw (same_part P Q at (16 * b) t.agree one.room other.room) other.block.packed in
    let same = same_numbers (part at (16 * b) P) b (differences before (block k xs)) (differences before (block k ys)) one.block.packed packed in
    let o : Orders before = orders_at xs k t.first.posting (omega arith) in
    let own : Restores before (differences before (block k xs)) (block k ys) = rw same (restores_differences before (block k ys) o other.rises other.long other.below) in
    same_restored before (differences before (block k xs)) (block k xs) (block k ys) o.four one.long other.long
    (restores_differences before (block k xs) o one.rises one.long one.below) own

-- of a list that ends first and one that ends later
fronts_at : (content : List ℕ) (at n m : ℕ) (xs ys : List ℕ) → n ≤ m → Spells (take n (drop at content)) xs → Spells (take m (drop at content)) ys → Fronts (take n (drop at content)) (take m (drop at content)) xs ys
fronts_at content at n m xs ys h s u = record {
  agree = λ i l.
      let D = drop at content in
      let k : i < n = omega (arith, length-take n D) in
      get_or-take n D i 0 k ∙ sym (get_or-take m D i 0 (omega arith));
  first = s;
  second = u;
}

-- two lists that stand at one place of a source are as long, and have the same blocks
pub one_block_at : (content : List ℕ) (place other : ListPlace) (xs ys : List ℕ) (k : ℕ) → place.at ≡ other.at → Spells (bytes_at content place) xs → Spells (bytes_at content other) ys
    → k < length xs / 128 → block k xs ≡ block k ys
unfolding bytes_at
one_block_at content place other xs ys k e s u h =
    let v : Spells (take other.bytes (drop place.at content)) ys = rw e u in
    elim (cases_lt place.bytes other.bytes) [
      | inl l ↦ same_block_of _ _ xs ys k (fronts_at content place.at place.bytes other.bytes xs ys (omega arith) s v) h
      | inr l ↦ (let t = fronts_at content place.at other.bytes place.bytes ys xs l v s in
          let long = same_length _ _ ys xs t in
          sym (same_block_of _ _ ys xs k t (omega (arith, long))))
    ]
