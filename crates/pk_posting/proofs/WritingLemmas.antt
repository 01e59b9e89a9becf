-- Widths as a function, and one number of the tail more.
use Rattle.std.proofs.Common.{◌≡◌, ℕ, zero, suc, ◌<◌, ◌≤◌, ◌+◌, ◌-◌, ◌*◌, ◌/◌, ◌^◌, List, [], ◌∷◌, ◌++◌, length, take, drop, slice_index, max, arith, refl, sym, ap, ap₂, ◌∙◌, length-append, length-drop}
use Rattle.std.proofs.Math.Pow.{pow_mono}
use Rattle.std.specs.Int.Digits.{digits_of}
use Rattle.std.proofs.lemmas.Int.Digits.{length-digits_of-le, number_lt, number_digits_of, all_below_base_digits_of}
use Rattle.std.proofs.lemmas.List.{append_assoc, append-nil, length-take-le, drop_at, take_at}
use Rattle.pk_lanes.specs.Packed.{Packed}
use Rattle.pk_posting.specs.Posting.{part, Block}
use Rattle.std.proofs.lemmas.Slice.{take-put_mid}
use borrow.Rule.Slice.PartMut.{put_mid}
use Rattle.pk_vbyte.specs.VariableByte.{vbyte}
use Rattle.pk_posting.specs.Posting.{tail_bytes, differences, seed, block, Spells, width, total, tail_place}
use Rattle.pk_posting.specs.Tails.{Climbs}
use Rattle.pk_posting.specs.Spelling.{width_of, widths_of, spelled_length}
use Rattle.pk_posting.specs.Writing.{TailPut, TailCounted}

-- ---- widths

bits_fit : (n : ℕ) → n < 2 ^ length (digits_of 2 n)
bits_fit n = (let e = number_digits_of 2 n (omega arith) in let l = number_lt 2 (digits_of 2 n) (all_below_base_digits_of 2 n (omega arith)) in omega (arith, e, l))

pub width_fits : (xs : List ℕ) (i : ℕ) → i < length xs → slice_index xs i < 2 ^ width_of xs
unfolding width_of
width_fits [] i h = absurd (omega arith)
width_fits (x ∷ xs) zero h = (let m : 2 ^ length (digits_of 2 x) ≤ 2 ^ max (length (digits_of 2 x)) (width_of xs) = pow_mono (omega arith) in omega (arith, bits_fit x, m))
width_fits (x ∷ xs) (suc i) h = (let m : 2 ^ width_of xs ≤ 2 ^ max (length (digits_of 2 x)) (width_of xs) = pow_mono (omega arith) in
    let r = width_fits xs i (omega arith) in omega (arith, r, m))

pub width_least : (xs : List ℕ) (b : ℕ) → ((i : ℕ) → i < length xs → slice_index xs i < 2 ^ b) → width_of xs ≤ b
unfolding width_of
width_least [] b f = omega arith
width_least (x ∷ xs) b f = (let a = length-digits_of-le 2 b x (omega arith) (f 0 (omega arith)) in
    let r = width_least xs b (λ i h. f (suc i) (omega arith)) in omega arith)

pub width_is : (xs : List ℕ) (w : ℕ) → length xs ≡ 128 → ((i : ℕ) → i < 128 → slice_index xs i < 2 ^ w)
    → ((a : ℕ) → ((i : ℕ) → i < 128 → slice_index xs i < 2 ^ a) → w ≤ a) → w ≡ width_of xs
width_is xs w l fits least =
    let a = width_least xs w (λ i h. fits i (omega arith)) in
    let b = least (width_of xs) (λ i h. width_fits xs i (omega arith)) in
    omega arith

pub widths_more : (k : ℕ) (xs : List ℕ) → widths_of (k + 1) xs ≡ widths_of k xs + width_of (differences (seed k xs) (block k xs))
unfolding widths_of
widths_more k xs = let e : k + 1 ≡ suc k = omega arith in ap (λ n. widths_of n xs) e

pub total_is : (bytes xs : List ℕ) → Spells bytes xs → (k : ℕ) → k ≤ length xs / 128 → total bytes (length xs / 128) k ≡ widths_of k xs
unfolding total widths_of
total_is bytes xs s zero h = refl
total_is bytes xs s (suc k) h =
    let b = (s.blocks k (omega arith)).block in
    let long : length (differences (seed k xs) (block k xs)) ≡ 128 = b.packed.count in
    let w = width_is (differences (seed k xs) (block k xs)) (width bytes (length xs / 128) k) long b.packed.below b.least in
    ap₂ (λ m n. m + n) (total_is bytes xs s k (omega arith)) w

-- each spelling has one length
pub spelling_long : (bytes xs : List ℕ) → Spells bytes xs → length bytes ≡ spelled_length xs
spelling_long bytes xs s =
    let t = total_is bytes xs s (length xs / 128) (omega arith) in
    let tail = ap length s.tail in
    let whole = s.whole in
    omega (arith, t, tail, whole, length-drop (tail_place bytes (length xs / 128)) bytes)

-- ---- the tail

pub tail_start : (start before : ℕ) (xs old : List ℕ) → Climbs before xs → TailPut start before start before xs xs old old
tail_start start before xs old c = record { written = refl; climbs = c; room = refl }

tail_cons : (before x : ℕ) (xs : List ℕ) → tail_bytes before (x ∷ xs) ≡ vbyte (x - before) ++ tail_bytes x xs
unfolding tail_bytes
tail_cons before x xs = refl

tail_nil : (before : ℕ) → tail_bytes before [] ≡ []
unfolding tail_bytes
tail_nil before = refl

pub room_for : (start before at here x : ℕ) (xs left rest old out : List ℕ) → left ≡ x ∷ rest → TailPut start before at here xs left old out
    → (at + length (vbyte (x - here)) + length (tail_bytes x rest) ≡ start + length (tail_bytes before xs)) × (here < x)
room_for start before at here x xs left rest old out e t =
    let c : Climbs here (x ∷ rest) = rw e at t.climbs in
    let r = t.room in
    let l = ap (λ ys. length (tail_bytes here ys)) e ∙ ap length (tail_cons here x rest) ∙ length-append (vbyte (x - here)) (tail_bytes x rest) in
    (omega (arith, r, l), c.0)

pub tail_put : (start before at here x used : ℕ) (xs left rest old out group : List ℕ) → left ≡ x ∷ rest → TailPut start before at here xs left old out
    → used ≡ length (vbyte (x - here)) → group ≡ vbyte (x - here) → at ≤ length out → length group ≡ used
    → TailPut start before (at + used) x xs rest old (put_mid at used out group)
tail_put start before at here x used xs left rest old out group e t u g h k =
    let c : Climbs here (x ∷ rest) = rw e at t.climbs in
    let room = room_for start before at here x xs left rest old out e t in
    let r = room.0 in
    record {
      written = ap (λ ys. ys ++ tail_bytes x rest) (take-put_mid at used out group (at + used) (omega arith) h)
          ∙ append_assoc (take at out) group (tail_bytes x rest)
          ∙ ap (λ ys. take at out ++ (ys ++ tail_bytes x rest)) g
          ∙ ap (λ ys. take at out ++ ys) (sym (tail_cons here x rest) ∙ ap (tail_bytes here) (sym e)) ∙ t.written;
      climbs = c.2;
      room = omega arith;
    }

pub tail_done : (start before at here : ℕ) (xs left old out : List ℕ) → left ≡ [] → TailPut start before at here xs left old out
    → (at ≡ start + length (tail_bytes before xs)) × (take at out ≡ take start old ++ tail_bytes before xs)
tail_done start before at here xs left old out e t =
    let none : tail_bytes here left ≡ [] = ap (tail_bytes here) e ∙ tail_nil here in
    let n = ap length none in
    let r = t.room in
    (omega (arith, n, r), sym (append-nil (take at out)) ∙ ap (λ ys. take at out ++ ys) (sym none) ∙ t.written)

-- ---- a block

pub fits_32 : (ds : List ℕ) (w : ℕ) → w ≤ 32 → ((i : ℕ) → i < 128 → slice_index ds i < 2 ^ w) → (i : ℕ) → i < 128 → slice_index ds i < 2 ^ 32
fits_32 ds w h f i k = (let e : 2 ^ w ≤ 2 ^ 32 = pow_mono h in omega (arith, f i k, e))

pub block_put : (at w : ℕ) (seed xs ds out packed : List ℕ) → ds ≡ differences seed xs → Packed packed w ds
    → ((a : ℕ) → ((i : ℕ) → i < 128 → slice_index ds i < 2 ^ a) → w ≤ a) → at + 16 * w ≤ length out
    → Block (put_mid at (16 * w) out packed) at w seed xs
block_put at w seed xs ds out packed e p least h =
    let here : part at (16 * w) (put_mid at (16 * w) out packed) ≡ packed =
    ap (λ ys. take (16 * w) ys) (drop_at (take at out) (packed ++ drop (16 * w) (drop at out)) at (length-take-le at out (omega arith)))
    ∙ take_at packed (drop (16 * w) (drop at out)) (16 * w) p.size in
    record {
      packed = rw (here, ← e) p;
      least = λ a f. least a (λ i k. rw e (f i k));
    }

-- ---- the tail's length

pub counted_start : (before : ℕ) (xs : List ℕ) → Climbs before xs → TailCounted before before 0 xs xs
counted_start before xs c = record { counted = omega arith; climbs = c }

pub counted_more : (before here count used x : ℕ) (xs left rest : List ℕ) → left ≡ x ∷ rest → TailCounted before here count xs left → used ≡ length (vbyte (x - here))
    → TailCounted before x (count + used) xs rest
counted_more before here count used x xs left rest e t u =
    let c : Climbs here (x ∷ rest) = rw e at t.climbs in
    let l = ap (λ ys. length (tail_bytes here ys)) e ∙ ap length (tail_cons here x rest) ∙ length-append (vbyte (x - here)) (tail_bytes x rest) in
    let r = t.counted in
    record { counted = omega arith; climbs = c.2 }

pub counted_low : (before here count x : ℕ) (xs left rest : List ℕ) → left ≡ x ∷ rest → TailCounted before here count xs left → here < x
counted_low before here count x xs left rest e t = let c : Climbs here (x ∷ rest) = rw e at t.climbs in c.0

pub counted_all : (before here count : ℕ) (xs left : List ℕ) → left ≡ [] → TailCounted before here count xs left → count ≡ length (tail_bytes before xs)
counted_all before here count xs left e t =
    let none : tail_bytes here left ≡ [] = ap (tail_bytes here) e ∙ tail_nil here in
    let n = ap length none in
    let r = t.counted in
    omega arith
