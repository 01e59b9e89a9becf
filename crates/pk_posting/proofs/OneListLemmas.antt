-- A spelling is of one list.
use Rattle.std.proofs.Common.{◌≡◌, ℕ, zero, suc, ◌<◌, ◌≤◌, ◌+◌, ◌-◌, ◌*◌, ◌/◌, ◌%◌, inl, inr, List, [], ◌∷◌, ◌++◌, length, take, drop, slice_index, arith, refl, sym, ap, ap₂, ◌∙◌}
use Rattle.std.proofs.lemmas.Bool.{cases_lt}
use Rattle.std.proofs.lemmas.List.{take-append-drop}
use Rattle.pk_vbyte.proofs.Prefix.{same_first}
use Rattle.pk_posting.specs.Posting.{IsRightBlock, Spells, base, offset, width, total, seed, block, part, tail_place, tail_bytes, differences}
use Rattle.pk_posting.specs.Reading.{ReadTo, Begun}
use Rattle.pk_posting.specs.Tails.{Climbs}
use Rattle.pk_posting.proofs.BlockLemmas.{length_seed, length_part, get_part, take_block}
use Rattle.pk_lanes.proofs.CallerLemmas.{same_numbers}
use Rattle.pk_posting.proofs.DifferenceLemmas.{Orders, restores_differences, same_restored}
use Rattle.pk_posting.proofs.EntryLemmas.{total_rises, entry_of}
use Rattle.pk_posting.proofs.ReadingLemmas.{read_none, read_more}
use Rattle.pk_posting.proofs.WholeLemmas.{tail_of}
use Rattle.pk_lanes.specs.Differences.{Restores}

-- a good block is of one list
good_once : (bytes : List ℕ) (at b : ℕ) (seed xs ys : List ℕ) → Orders seed → IsRightBlock bytes at b seed xs → IsRightBlock bytes at b seed ys → xs ≡ ys
good_once bytes at b seed xs ys o g h =
    let same : differences seed xs ≡ differences seed ys = same_numbers _ b _ _ g.block.packed h.block.packed in
    let own : Restores seed (differences seed xs) ys = rw same (restores_differences seed ys o h.rises h.long h.below) in
    same_restored seed (differences seed xs) xs ys o.four g.long h.long (restores_differences seed xs o g.rises g.long g.below) own

pub record Started (bytes : List ℕ) (B k old_at old_widths : ℕ) : Type 0 where
  pub at : ℕ
  pub widths : ℕ
  pub begun : Begun bytes B k old_at old_widths at widths

begun_of : (bytes : List ℕ) (B k : ℕ) (out before : List ℕ) (at widths : ℕ) → k < B → ReadTo bytes B k out before at widths
    → (xs : List ℕ) → Spells bytes xs → length xs / 128 ≡ B → Started bytes B k at widths
begun_of bytes B k out before at widths h r xs s e =
    let here = r.here in
    let rest : k + (B - k) ≡ B = omega arith in
    let rises = rw rest at (total_rises bytes B k (B - k)) in
    let whole : tail_place bytes B ≤ length bytes = rw e at s.whole in
    let own : offset bytes k ≡ 16 * (k / 16 + 1) + 16 * total bytes B k = rw e at (s.offsets k (omega arith)) in
    elim (cases_lt 0 (k % 16)) [
      | inl l ↦ record {
        at = at;
        widths = widths;
        begun = record {
          room = r.room;
          widths_room = r.widths_room l;
          first_at = λ z. absurd (omega arith);
          first_widths = λ z. absurd (omega arith);
          later_at = λ z. refl;
          later_widths = λ z. refl;
          zeros = λ z. absurd (omega arith);
        };
      }
      | inr first ↦ record {
        at = at + 16;
        widths = at;
        begun = record {
          room = omega arith;
          widths_room = omega arith;
          first_at = λ z. refl;
          first_widths = λ z. refl;
          later_at = λ z. absurd (omega arith);
          later_widths = λ z. absurd (omega arith);
          zeros = λ z j l m. (
              let v : width bytes B (k + j) ≡ 0 = rw e at (s.padding (k + j) (omega arith) (omega arith)) in
              let f : 16 * ((k + j) / 16) ≡ k = omega arith in
              let u = ap (offset bytes) f in
              let p : at + j ≡ base B + (offset bytes (16 * ((k + j) / 16)) - 16) + (k + j) % 16 = omega (arith, u, own, here, first) in
              ap (slice_index bytes) p ∙ v);
        };
      }
    ]

pub record State (bytes : List ℕ) (B k : ℕ) (xs : List ℕ) : Type 0 where
  pub before : List ℕ
  pub at : ℕ
  pub widths : ℕ
  pub read : ReadTo bytes B k (take (128 * k) xs) before at widths

-- what a list spells is read as that list
read_all : (bytes : List ℕ) (B : ℕ) (xs : List ℕ) → Spells bytes xs → length xs / 128 ≡ B → (k : ℕ) → k ≤ B → State bytes B k xs
read_all bytes B xs s e zero h = (let w : tail_place bytes B ≤ length bytes = rw e at s.whole in
    record { before = 0 ∷ 0 ∷ 0 ∷ 0 ∷ []; at = base B; widths = base B; read = read_none bytes B _ (base B) (base B) refl (omega arith) refl })
read_all bytes B xs s e (suc k) h =
    let t = read_all bytes B xs s e k (omega arith) in
    let r = t.read in
    let b = begun_of bytes B k (take (128 * k) xs) t.before t.at t.widths (omega arith) r xs s e in
    let g = entry_of bytes B k (take (128 * k) xs) t.before t.at t.widths b.at b.widths (omega arith) r b.begun xs s e in
    let o : Orders t.before = record { four = ap length r.seed_is ∙ length_seed k (take (128 * k) xs) (omega (arith, r.long)); step = r.order } in
    let long : length (block k xs) ≡ 128 = g.good.long in
    let n = read_more bytes B k (take (128 * k) xs) t.before t.at t.widths b.at b.widths (block k xs) (part 124 4 (block k xs)) (omega arith) r b.begun g
    (length_part 124 4 (block k xs) (omega arith)) (λ c l. get_part 124 4 (block k xs) c l)
    (λ ys m. good_once bytes b.at _ t.before (block k xs) ys o g.good m.good) in
    let next : take (128 * k) xs ++ block k xs ≡ take (128 * (k + 1)) xs = sym (take_block k xs (omega arith)) in
    let one : k + 1 ≡ suc k = omega arith in
    record { before = part 124 4 (block k xs); at = b.at + 16 * slice_index bytes (b.widths + k % 16); widths = b.widths; read = rw one at (rw next at n) }

tail_once : (before : ℕ) (xs ys : List ℕ) → length xs ≡ length ys → Climbs before xs → Climbs before ys → tail_bytes before xs ≡ tail_bytes before ys → xs ≡ ys
unfolding tail_bytes
tail_once before [] [] l c d e = refl
tail_once before [] (y ∷ ys) l c d e = absurd (omega arith)
tail_once before (x ∷ xs) [] l c d e = absurd (omega arith)
tail_once before (x ∷ xs) (y ∷ ys) l c d e =
    let f = same_first (x - before) (y - before) (tail_bytes x xs) (tail_bytes y ys) e in
    let low = c.0 in
    let low_y = d.0 in
    let gap = f.0 in
    let same : x ≡ y = omega arith in
    let rest : tail_bytes x xs ≡ tail_bytes x ys = f.1 ∙ ap (λ z. tail_bytes z ys) (sym same) in
    let climbs : Climbs x ys = rw same d.2 in
    ap₂ (λ z zs. z ∷ zs) same (tail_once x xs ys (omega arith) c.2 climbs rest)

-- a spelling is of one list
pub one_list : (bytes xs ys : List ℕ) → Spells bytes xs → Spells bytes ys → xs ≡ ys
one_list bytes xs ys s t =
    let B = length xs / 128 in
    let st = read_all bytes B xs s refl B (omega arith) in
    let r = st.read in
    let last = slice_index (0 ∷ take (128 * B) xs) (length (take (128 * B) xs)) in
    let a = tail_of bytes (length xs) B (take (128 * B) xs) st.before st.at st.widths last s.count refl r refl xs s in
    let b = tail_of bytes (length xs) B (take (128 * B) xs) st.before st.at st.widths last s.count refl r refl ys t in
    let rest : drop (128 * B) xs ≡ drop (128 * B) ys =
    tail_once last _ _ (a.1.long ∙ sym b.1.long) a.1.climbs b.1.climbs (sym a.1.spelled ∙ b.1.spelled) in
    sym (take-append-drop (128 * B) xs) ∙ ap₂ (λ u v. u ++ v) (sym b.0) rest ∙ take-append-drop (128 * B) ys
