-- The parts of a list, from what a source lends of them.
use Rattle.std.proofs.Common.{◌≡◌, ◌∷◌, [], ◌≤◌, ◌<◌, ◌+◌, ◌-◌, ◌*◌, ◌/◌, ◌%◌, ◌^◌, ◌∙◌, ◌++◌, ℕ, zero, suc, List, length, drop, slice_index, sym, ap, subst, refl, arith, inl, inr}
use Rattle.std.proofs.lemmas.Bool.{cases_lt}
use Rattle.std.proofs.lemmas.Bool.Decides.{eqb_tells}
use Rattle.std.proofs.lemmas.List.{take_all, length-drop, length-append, ext_get_or, append-nil, nil_from_length}
use Rattle.pk_vbyte.specs.VariableByte.{vbyte}
use Rattle.pk_vbyte.proofs.CallerLemmas.{most_bytes}
use Rattle.pk_posting.specs.declared.fields.ListPlace.{ListPlace}
use Rattle.pk_posting.specs.declared.fields.Shape.{Shape}
use Rattle.pk_posting.specs.Posting.{BlockOf, IsRightBlock, Spells, base, offset, width, total, seed, block, tail_place, tail_bytes, word}
use Rattle.pk_posting.specs.Reading.{IsRestored}
use Rattle.pk_posting.specs.Tails.{Climbs, IsTail, TailTo}
use Rattle.pk_posting.specs.Parts.{EntryWords, HasShape, bytes_at}
use Rattle.pk_posting.proofs.BlockLemmas.{get_part, get_seed, length_seed, length_part, four_zeros, one_zero}
use Rattle.pk_posting.proofs.DifferenceLemmas.{restored_is}
use Rattle.pk_posting.proofs.EntryLemmas.{total_more, total_rises}
use Rattle.pk_posting.proofs.LentLemmas.{Lent, length_bytes_at, lent_part}
use Rattle.pk_posting.proofs.RisingLemmas.{orders_at, rises_at, tail_climbs}
use Rattle.pk_posting.proofs.ShapeLemmas.{ends_at}
use Rattle.pk_posting.proofs.TailLemmas.{length_left, tail_all, tail_over}

-- where the packed blocks end, from three reads of one source
pub tail_read : (place : ListPlace) (first second third : List ℕ) (B row entry width_at width : ℕ) (xs : List ℕ) → second ≡ first → third ≡ second
    → Spells (bytes_at first place) xs → length xs / 128 ≡ B → 0 < B
    → row ≡ word (bytes_at first place) (4 + 20 * (16 * ((B - 1) / 16))) → entry ≡ word (bytes_at second place) (4 + 20 * (B - 1))
    → width_at ≡ base B + row + (B - 1) % 16 - 16 → width ≡ slice_index (bytes_at third place) width_at
    → base B + (entry + 16 * width) ≡ tail_place (bytes_at first place) B
tail_read place first second third B row entry width_at width xs e d s b h r q w z =
    let entry_is : entry ≡ word (bytes_at first place) (4 + 20 * (B - 1)) = q ∙ ap (λ (l : List ℕ). word (bytes_at l place) (4 + 20 * (B - 1))) e in
    let width_is : width ≡ slice_index (bytes_at first place) (base B + row + (B - 1) % 16 - 16) =
    z ∙ ap (λ (l : List ℕ). slice_index (bytes_at l place) width_at) (d ∙ e) ∙ ap (slice_index (bytes_at first place)) w in
    let l = ends_at (bytes_at first place) B row entry xs s b h r entry_is in
    omega (arith, l, width_is)

-- where block k lies: from its offset to the next one's, less the widths between metablocks
record BlockLies (bytes : List ℕ) (B tail k : ℕ) : Type 0 where
  pub small : width bytes B k ≤ 32
  pub room : base B + offset bytes k + 16 * width bytes B k ≤ tail
  pub last : k + 1 ≡ B → tail ≡ base B + offset bytes k + 16 * width bytes B k
  pub row : k + 1 < B → (k + 1) % 16 ≡ 0 → offset bytes (k + 1) ≡ offset bytes k + 16 * width bytes B k + 16
  pub other : k + 1 < B → 0 < (k + 1) % 16 → offset bytes (k + 1) ≡ offset bytes k + 16 * width bytes B k

block_lies : (bytes : List ℕ) (shape : Shape) (xs : List ℕ) (k : ℕ) → HasShape bytes shape xs → k < shape.blocks → BlockLies bytes shape.blocks shape.tail k
block_lies bytes shape xs k l h =
    let B = shape.blocks in
    let e : length xs / 128 ≡ B = sym l.blocks in
    let s = l.spelled in
    let own : (j : ℕ) → j < B → offset bytes j ≡ 16 * (j / 16 + 1) + 16 * total bytes B j = λ j m. rw e at (s.offsets j (omega arith)) in
    let of : BlockOf bytes B k xs = rw e at (s.blocks k (omega arith)) in
    let tail : shape.tail ≡ tail_place bytes B = rw e at l.tail in
    let more = total_more bytes B k in
    let g : k + 1 + (B - (k + 1)) ≡ B = omega arith in
    let rises = total_rises bytes B (k + 1) (B - (k + 1)) in
    let up = ap (total bytes B) g in
    let here = own k h in
    record {
      small = of.small;
      room = omega (arith, more, rises, up, here, tail);
      last = λ z. (let t = ap (total bytes B) z in omega (arith, more, t, here, tail));
      row = λ z m. (let n = own (k + 1) z in omega (arith, more, here, n));
      other = λ z m. (let n = own (k + 1) z in omega (arith, more, here, n));
    }

end_is : (bytes : List ℕ) (B tail k tail_left next end : ℕ) → BlockLies bytes B tail k → k < B → tail_left ≡ tail - base B
    → (k + 1 < B → next ≡ offset bytes (k + 1))
    → (k + 1 ≡ B → end ≡ tail_left) → (k + 1 < B → (k + 1) % 16 ≡ 0 → end ≡ next - 16) → (k + 1 < B → 0 < (k + 1) % 16 → end ≡ next)
    → end ≡ offset bytes k + 16 * width bytes B k
end_is bytes B tail k tail_left next end l h t n a b c = elim (cases_lt (k + 1) B) [
  | inl m ↦ elim (cases_lt 0 ((k + 1) % 16)) [
    | inl r ↦ (let q = l.other m r in let u = n m in let v = c m r in omega arith)
    | inr z ↦ (let w : (k + 1) % 16 ≡ 0 = omega arith in let q = l.row m w in let u = n m in let v = b m w in omega arith)
  ]
  | inr m ↦ (let z : k + 1 ≡ B = omega arith in let q = l.last z in let v = a z in omega arith)
]

first_zeros : (xs : List ℕ) (i : ℕ) → i < 4 → slice_index (0 ∷ 0 ∷ 0 ∷ 0 ∷ xs) i ≡ 0
first_zeros xs zero h = refl
first_zeros xs (suc zero) h = refl
first_zeros xs (suc (suc zero)) h = refl
first_zeros xs (suc (suc (suc zero))) h = refl
first_zeros xs (suc (suc (suc (suc i)))) h = absurd (omega arith)

front_of : (xs : List ℕ) (c : ℕ) → c < 4 → slice_index (slice_index xs 0 ∷ slice_index xs 1 ∷ slice_index xs 2 ∷ slice_index xs 3 ∷ []) c ≡ slice_index xs c
front_of xs zero h = refl
front_of xs (suc zero) h = refl
front_of xs (suc (suc zero)) h = refl
front_of xs (suc (suc (suc zero))) h = refl
front_of xs (suc (suc (suc (suc c)))) h = absurd (omega arith)

start_is : (bytes : List ℕ) (k from to : ℕ) (words : List ℕ) → EntryWords bytes k from to words → from ≤ 4 → 4 < to → slice_index words 4 ≡ offset bytes k
start_is bytes k from to words w h m = let e : 20 * k + 4 * 4 - 12 ≡ 4 + 20 * k = omega arith in w.value 4 h m ∙ ap (word bytes) e

next_is : (bytes : List ℕ) (k from to : ℕ) (words : List ℕ) → EntryWords bytes k from to words → from ≤ 4 → 9 < to → slice_index words 9 ≡ offset bytes (k + 1)
next_is bytes k from to words w h m = let e : 20 * k + 4 * 9 - 12 ≡ 4 + 20 * (k + 1) = omega arith in w.value 9 (omega arith) m ∙ ap (word bytes) e

-- what the words around block k say of its place
pub record Bounds (bytes : List ℕ) (B tail k start end : ℕ) : Type 0 where
  pub start_is : start ≡ offset bytes k
  pub end_is : end ≡ offset bytes k + 16 * width bytes B k
  pub room : base B + offset bytes k + 16 * width bytes B k ≤ tail
  pub small : width bytes B k ≤ 32

pub bounds_of : (bytes : List ℕ) (shape : Shape) (xs : List ℕ) (k from to end : ℕ) (words : List ℕ) → HasShape bytes shape xs → k < shape.blocks → from ≤ 4 → 4 < to → (k + 1 < shape.blocks → to ≡ 10)
    → EntryWords bytes k from to words → (k + 1 ≡ shape.blocks → end ≡ shape.tail - base shape.blocks)
    → (k + 1 < shape.blocks → (k + 1) % 16 ≡ 0 → end ≡ slice_index words 9 - 16) → (k + 1 < shape.blocks → 0 < (k + 1) % 16 → end ≡ slice_index words 9)
    → Bounds bytes shape.blocks shape.tail k (slice_index words 4) end
bounds_of bytes shape xs k from to end words l h f t all w a b c =
    let lies = block_lies bytes shape xs k l h in
    record {
      start_is = start_is bytes k from to words w f t;
      end_is = end_is bytes shape.blocks shape.tail k (shape.tail - base shape.blocks) (slice_index words 9) end lies h refl
          (λ m. next_is bytes k from to words w f (omega (arith, all m))) a b c;
      room = lies.room;
      small = lies.small;
    }

-- the numbers before block k are the seed
pub seed_is : (bytes : List ℕ) (shape : Shape) (xs : List ℕ) (k from to : ℕ) (words : List ℕ) → HasShape bytes shape xs → k < shape.blocks → from ≡ 4 - 4 * k → 4 < to
    → EntryWords bytes k from to words → slice_index words 0 ∷ slice_index words 1 ∷ slice_index words 2 ∷ slice_index words 3 ∷ [] ≡ seed k xs
seed_is bytes shape xs k from to words l h f t w =
    let e : length xs / 128 ≡ shape.blocks = sym l.blocks in
    let four = slice_index words 0 ∷ slice_index words 1 ∷ slice_index words 2 ∷ slice_index words 3 ∷ [] in
    ext_get_or 0 four (seed k xs) (sym (length_seed k xs (omega arith))) (λ c m.
    let n : c < 4 = omega arith in
    front_of words c n ∙ word_is c n ∙ sym (get_seed k xs c n))
  where
    word_is : (c : ℕ) → c < 4 → slice_index words c ≡ slice_index (0 ∷ 0 ∷ 0 ∷ 0 ∷ xs) (128 * k + c)
    word_is c n = elim (cases_lt 0 k) [
      | inl p ↦ (
          let e : length xs / 128 ≡ shape.blocks = sym l.blocks in
          let of : BlockOf bytes (length xs / 128) (k - 1) xs = l.spelled.blocks (k - 1) (omega arith) in
          let place : 20 * k + 4 * c - 12 ≡ 8 + 20 * (k - 1) + 4 * c = omega arith in
          let there : 128 * k + c ≡ 4 + (128 * (k - 1) + 124 + c) = omega arith in
          w.value c (omega arith) (omega arith) ∙ ap (word bytes) place ∙ of.last c n
          ∙ sym (ap (slice_index (0 ∷ 0 ∷ 0 ∷ 0 ∷ xs)) there ∙ four_zeros xs (128 * (k - 1) + 124 + c)))
      | inr z ↦ (
          let there : 128 * k + c ≡ c = omega arith in
          w.zero c (omega arith) ∙ sym (ap (slice_index (0 ∷ 0 ∷ 0 ∷ 0 ∷ xs)) there ∙ first_zeros xs c n))
    ]

-- a block of a list that is spelled is right
pub right_block : (bytes : List ℕ) (shape : Shape) (xs : List ℕ) (k : ℕ) → HasShape bytes shape xs → k < shape.blocks → shape.tail ≤ length bytes
    → IsRightBlock bytes (base shape.blocks + offset bytes k) (width bytes shape.blocks k) (seed k xs) (block k xs)
right_block bytes shape xs k l h inside =
    let e : length xs / 128 ≡ shape.blocks = sym l.blocks in
    let lies = block_lies bytes shape xs k l h in
    let of : BlockOf bytes shape.blocks k xs = rw e at (l.spelled.blocks k (omega arith)) in
    let room : 128 * k + 128 ≤ length xs = omega arith in
    let under = lies.room in
    record {
      small = of.small;
      room = omega arith;
      long = length_part (128 * k) 128 xs room;
      below = λ i m. (let g = get_part (128 * k) 128 xs i m in let u = l.spelled.posting.below (128 * k + i) (omega arith) in omega (arith, g, u));
      rises = rises_at xs k l.spelled.posting room;
      block = of.block;
    }

-- what a block's packed bytes restore is the block
pub block_is : (bytes : List ℕ) (shape : Shape) (ys : List ℕ) (k at b : ℕ) (before xs : List ℕ) → HasShape bytes shape ys → k < shape.blocks → shape.tail ≤ length bytes
    → before ≡ seed k ys → at ≡ base shape.blocks + offset bytes k → b ≡ width bytes shape.blocks k → length xs ≡ 128 → IsRestored bytes at b before xs → xs ≡ block k ys
block_is bytes shape ys k at b before xs l h inside s a w long r =
    let e : length ys / 128 ≡ shape.blocks = sym l.blocks in
    let good : IsRightBlock bytes at b before (block k ys) = rw (s, a, w) (right_block bytes shape ys k l h inside) in
    restored_is bytes at b before r.0 xs (block k ys) (rw s (orders_at ys k l.spelled.posting (omega arith))) r.1 good r.2 long

pub record TailIs (bytes : List ℕ) (shape : Shape) (before : ℕ) (ys : List ℕ) : Type 0 where
  pub is : IsTail bytes shape.tail before (shape.count % 128) (drop (128 * shape.blocks) ys)

pub tail_is : (bytes : List ℕ) (shape : Shape) (ys : List ℕ) (before : ℕ) → HasShape bytes shape ys
    → (shape.blocks ≡ 0 → before ≡ 0) → (0 < shape.blocks → before ≡ word bytes (20 * shape.blocks)) → TailIs bytes shape before ys
tail_is bytes shape ys before l none some =
    let e : length ys / 128 ≡ shape.blocks = sym l.blocks in
    let p = l.spelled.posting in
    let count = l.count in
    let last : before ≡ slice_index (0 ∷ ys) (128 * shape.blocks) = elim (cases_lt 0 shape.blocks) [
      | inl h ↦ (
          let of : BlockOf bytes (length ys / 128) (shape.blocks - 1) ys = l.spelled.blocks (shape.blocks - 1) (omega arith) in
          let place : 8 + 20 * (shape.blocks - 1) + 4 * 3 ≡ 20 * shape.blocks = omega arith in
          let there : 128 * shape.blocks ≡ 1 + (128 * (shape.blocks - 1) + 124 + 3) = omega arith in
          some h ∙ ap (word bytes) (sym place) ∙ of.last 3 (omega arith) ∙ sym (ap (slice_index (0 ∷ ys)) there ∙ one_zero ys (128 * (shape.blocks - 1) + 124 + 3)))
      | inr z ↦ (let q : shape.blocks ≡ 0 = omega arith in let r : 0 ≡ 128 * shape.blocks = omega arith in none q ∙ ap (slice_index (0 ∷ ys)) r)
    ] in
    let tail : shape.tail ≡ tail_place bytes shape.blocks = rw e at l.tail in
    let spelled : drop (tail_place bytes shape.blocks) bytes ≡ tail_bytes (slice_index (0 ∷ ys) (128 * shape.blocks)) (drop (128 * shape.blocks) ys) = rw e at l.spelled.tail in
    record {
      is = record {
        long = omega (arith, length-drop (128 * shape.blocks) ys);
        climbs = rw last (tail_climbs ys (128 * shape.blocks) p (omega arith));
        spelled = ap (λ n. drop n bytes) tail ∙ spelled ∙ ap (λ n. tail_bytes n (drop (128 * shape.blocks) ys)) (sym last);
      };
    }

-- the bytes from the tail on, as they were lent
rest_lent : (content : List ℕ) (place : ListPlace) (n at : ℕ) (stretch : List ℕ) → place.at + place.bytes ≤ length content → n ≡ place.bytes - at
    → Lent content place n at stretch → stretch ≡ drop at (bytes_at content place)
rest_lent content place n at stretch lies e l =
    let L = bytes_at content place in
    sym (lent_part content place n at stretch l) ∙ take_all n (drop at L) (omega (arith, length-drop at L, length_bytes_at content place lies))

pub tail_lent : (content : List ℕ) (place : ListPlace) (n at : ℕ) (stretch : List ℕ) (before count : ℕ) (ys : List ℕ) → place.at + place.bytes ≤ length content → n ≡ place.bytes - at
    → Lent content place n at stretch → IsTail (bytes_at content place) at before count ys → IsTail stretch 0 before count ys
tail_lent content place n at stretch before count ys lies e l t =
    record { long = t.long; climbs = t.climbs; spelled = rest_lent content place n at stretch lies e l ∙ t.spelled }

-- and back
pub tail_back : (content : List ℕ) (place : ListPlace) (n at : ℕ) (stretch : List ℕ) (before count : ℕ) (ys : List ℕ) → place.at + place.bytes ≤ length content → n ≡ place.bytes - at
    → Lent content place n at stretch → IsTail stretch 0 before count ys → IsTail (bytes_at content place) at before count ys
tail_back content place n at stretch before count ys lies e l t =
    record { long = t.long; climbs = t.climbs; spelled = sym (rest_lent content place n at stretch lies e l) ∙ t.spelled }

-- all numbers of the tail were taken
pub tail_taken : (bytes : List ℕ) (before n at here : ℕ) (out ys : List ℕ) → TailTo bytes 0 before n n at here [] out → IsTail bytes 0 before n ys → out ≡ ys
tail_taken bytes before n at here out ys t u =
    let left = t.only ys u in
    let size = length_left bytes 0 before n n at here [] out ys t u left in
    t.out_is ∙ sym (left.split ∙ ap (λ xs. t.done ++ xs) (nil_from_length left.rest (omega (arith, size))) ∙ append-nil t.done)

-- they are the tail where they end with the bytes, and where there is one they do
pub taken_is : (bytes : List ℕ) (before n at here : ℕ) (out : List ℕ) → TailTo bytes 0 before n n at here [] out → at ≡ length bytes → IsTail bytes 0 before n out
taken_is bytes before n at here out t e = let r = tail_all bytes 0 before n at here [] out t e in subst (IsTail bytes 0 before n) (sym r.out_is) r.tail

pub taken_ends : (bytes : List ℕ) (before n at here : ℕ) (out ys : List ℕ) → TailTo bytes 0 before n n at here [] out → IsTail bytes 0 before n ys → at ≡ length bytes
taken_ends bytes before n at here out ys t u = elim (eqb_tells at (length bytes)) [
  | inl e ↦ e.1
  | inr e ↦ absurd (tail_over bytes 0 before n at here [] out t e.1 ys u)
]

-- a tail takes five bytes a number at most
pub tail_most : (before : ℕ) (ys : List ℕ) → Climbs before ys → length (tail_bytes before ys) ≤ 5 * length ys
unfolding tail_bytes
tail_most before [] c = omega arith
tail_most before (y ∷ ys) c =
    let small : y - before < 2 ^ 32 = omega (arith, c.1) in
    omega (arith, length-append (vbyte (y - before)) (tail_bytes y ys), most_bytes (y - before) small, tail_most y ys c.2)

-- the last number of a block, from its entry
pub last_is : (bytes : List ℕ) (shape : Shape) (ys : List ℕ) (k : ℕ) → HasShape bytes shape ys → k < shape.blocks → word bytes (20 * k + 20) ≡ slice_index ys (128 * k + 127)
last_is bytes shape ys k l h =
    let e : length ys / 128 ≡ shape.blocks = sym l.blocks in
    let of : BlockOf bytes (length ys / 128) k ys = l.spelled.blocks k (omega arith) in
    let place : 20 * k + 20 ≡ 8 + 20 * k + 4 * 3 = omega arith in
    let there : 128 * k + 124 + 3 ≡ 128 * k + 127 = omega arith in
    ap (word bytes) place ∙ of.last 3 (omega arith) ∙ ap (slice_index ys) there
