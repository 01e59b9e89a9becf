-- What a decoder has given: one block more, the tail behind the blocks, and why a refusal is right.
use Rattle.std.proofs.Common.{◌≡◌, ℕ, zero, suc, ◌<◌, ◌≤◌, ◌+◌, ◌-◌, ◌*◌, ◌/◌, ◌%◌, List, [], ◌∷◌, ◌++◌, length, take, drop, slice_index, Err, arith, refl, sym, ap, subst, ◌∙◌}
use Rattle.std.specs.Prelude.{IsErrOf}
use Rattle.std.proofs.lemmas.List.{drop_all, get_or-append_right, get_or_append_left, nil_from_length, take_all}
use Rattle.pk_lanes.specs.Packed.{Packed}
use Rattle.pk_lanes.specs.Differences.{Restores}
use Rattle.pk_posting.specs.declared.source.SourceFault.{SourceFault}
use Rattle.pk_posting.specs.declared.source.SourceFault.TheVariants.{Damaged, Disk}
use Rattle.pk_posting.specs.declared.decoder.ListDecoder.{ListDecoder}
use Rattle.pk_posting.specs.declared.fields.ListPlace.{ListPlace}
use Rattle.pk_posting.specs.Posting.{IsRightBlock, Rises, Spells, base, block, differences, part, tail_bytes, word}
use Rattle.pk_posting.specs.Decoder.{AreWidths, Begins, HasGiven, IsEntry, blocks_of, last_given, tail_count}
use Rattle.pk_posting.specs.Parts.{bytes_at}
use Rattle.pk_posting.specs.Reading.{Breaks, IsRestored, ReadTo}
use Rattle.pk_posting.specs.Tails.{IsTail}
use Rattle.pk_posting.specs.Limits.{longest_list}
use Rattle.pk_posting.proofs.BlockLemmas.{get_seed, three_zeros}
use Rattle.pk_posting.proofs.EntryLemmas.{entry_of}
use Rattle.pk_posting.proofs.LentLemmas.{Lent, length_bytes_at, lent_part, word_lent}
use Rattle.pk_posting.proofs.ReadingLemmas.{four_of, not_begun, read_more}
use Rattle.pk_posting.proofs.WholeLemmas.{tail_of, whole}

-- ---- packed bytes that were lent

same_part : (content : List ℕ) (place : ListPlace) (n at : ℕ) (stretch : List ℕ) → length stretch ≡ n
    → Lent content place n at stretch → part 0 n stretch ≡ part at n (bytes_at content place)
same_part content place n at stretch long l =
    take_all n stretch (omega (arith, long)) ∙ sym (lent_part content place n at stretch l)

-- a block is right in the list exactly where it is in the stretch that was lent
pub right_there : (content : List ℕ) (place : ListPlace) (b at : ℕ) (stretch before xs : List ℕ)
    → place.at + place.bytes ≤ length content → length stretch ≡ 16 * b → Lent content place (16 * b) at stretch
    → IsRightBlock stretch 0 b before xs → IsRightBlock (bytes_at content place) at b before xs
right_there content place b at stretch before xs lies long l g = record {
  small = g.small;
  room = omega (arith, l.inside, length_bytes_at content place lies);
  long = g.long;
  below = g.below;
  rises = g.rises;
  block = record {
    packed = subst (λ (bs : List ℕ). Packed bs b (differences before xs)) (same_part content place (16 * b) at stretch long l) g.block.packed;
    least = g.block.least;
  };
}

pub right_here : (content : List ℕ) (place : ListPlace) (b at : ℕ) (stretch before xs : List ℕ)
    → length stretch ≡ 16 * b → Lent content place (16 * b) at stretch
    → IsRightBlock (bytes_at content place) at b before xs → IsRightBlock stretch 0 b before xs
right_here content place b at stretch before xs long l g = record {
  small = g.small;
  room = omega (arith, long);
  long = g.long;
  below = g.below;
  rises = g.rises;
  block = record {
    packed = subst (λ (bs : List ℕ). Packed bs b (differences before xs)) (sym (same_part content place (16 * b) at stretch long l)) g.block.packed;
    least = g.block.least;
  };
}

-- what was unpacked is restored
pub restored_whole : (stretch : List ℕ) (b : ℕ) (before xs : List ℕ) → length stretch ≡ 16 * b
    → ((ds : List ℕ) × Packed stretch b ds × Restores before ds xs) → IsRestored stretch 0 b before xs
restored_whole stretch b before xs long r =
    (r.0, subst (λ (bs : List ℕ). Packed bs b r.0) (sym (take_all (16 * b) stretch (omega (arith, long)))) r.1, r.2)

-- numbers that rise from the seed on rise from its last
pub rises_on : (before xs : List ℕ) → length before ≡ 4 → Rises before xs → (i : ℕ) → i < 128
    → slice_index (slice_index before 3 ∷ xs) i < slice_index xs i
rises_on before xs four r zero l =
    let a = get_or_append_left before xs 0 3 (omega (arith, four)) in
    omega (arith, a, r.step 0 l)
rises_on before xs four r (suc i) l =
    let e : 3 + suc i - 4 ≡ i = omega arith in
    let a = get_or-append_right before xs 4 (3 + suc i) 0 four (omega arith) ∙ ap (slice_index xs) e in
    omega (arith, a, r.step (suc i) l)

-- so their last four don't fall
pub last_four : (before xs : List ℕ) → length before ≡ 4 → Rises before xs → (i : ℕ) → i < 3
    → slice_index (slice_index xs 124 ∷ slice_index xs 125 ∷ slice_index xs 126 ∷ slice_index xs 127 ∷ []) i
    ≤ slice_index (slice_index xs 124 ∷ slice_index xs 125 ∷ slice_index xs 126 ∷ slice_index xs 127 ∷ []) (i + 1)
last_four before xs four r i l =
    let e : 124 + (i + 1) ≡ suc (124 + i) = omega arith in
    let up = rises_on before xs four r (suc (124 + i)) (omega arith) in
    omega (arith, four_of xs i (omega arith), four_of xs (i + 1) (omega arith) ∙ ap (slice_index xs) e, up)

-- ---- the entry and the widths that were lent

-- the entry of a block, in the list and in the stretch that was lent
pub record IsEntryHere (stretch : List ℕ) (B at : ℕ) (xs : List ℕ) : Type 0 where
  pub offset : word stretch 0 + base B ≡ at
  pub last : (c : ℕ) → c < 4 → word stretch (4 + 4 * c) ≡ slice_index xs (124 + c)

pub entry_there : (content : List ℕ) (place : ListPlace) (B k at : ℕ) (stretch xs : List ℕ)
    → Lent content place 20 (4 + 20 * k) stretch → IsEntryHere stretch B at xs → IsEntry (bytes_at content place) B k at xs
entry_there content place B k at stretch xs l e = record {
  offset = (let o = word_lent content place 20 (4 + 20 * k) stretch 0 (4 + 20 * k) l (omega arith) (omega arith) in omega (arith, o, e.offset));
  last = λ c h. sym (word_lent content place 20 (4 + 20 * k) stretch (4 + 4 * c) (8 + 20 * k + 4 * c) l (omega arith) (omega arith)) ∙ e.last c h;
}

pub entry_here : (content : List ℕ) (place : ListPlace) (B k at : ℕ) (stretch xs : List ℕ)
    → Lent content place 20 (4 + 20 * k) stretch → IsEntry (bytes_at content place) B k at xs → IsEntryHere stretch B at xs
entry_here content place B k at stretch xs l e = record {
  offset = (let o = word_lent content place 20 (4 + 20 * k) stretch 0 (4 + 20 * k) l (omega arith) (omega arith) in omega (arith, o, e.offset));
  last = λ c h. word_lent content place 20 (4 + 20 * k) stretch (4 + 4 * c) (8 + 20 * k + 4 * c) l (omega arith) (omega arith) ∙ e.last c h;
}

-- a block goes on in the metablock of the one before it, or begins one
pub begins_later : (bytes : List ℕ) (d : ListDecoder) (numbers : List ℕ) (h : HasGiven bytes d numbers) → 0 < d.given % 16
    → Begins bytes d h.row d.at d.widths
begins_later bytes d numbers h later = record {
  row = h.row;
  begun = record {
    room = h.read.room;
    widths_room = h.read.widths_room later;
    first_at = λ z. absurd (omega arith);
    first_widths = λ z. absurd (omega arith);
    later_at = λ l. refl;
    later_widths = λ l. refl;
    zeros = λ z. absurd (omega arith);
  };
  same = h.widths later;
}

pub begins_first : (bytes : List ℕ) (d : ListDecoder) (numbers : List ℕ) (h : HasGiven bytes d numbers) (widths : List ℕ) → d.given % 16 ≡ 0
    → AreWidths bytes (blocks_of d) d.given d.at widths → Begins bytes d h.row (d.at + 16) widths
begins_first bytes d numbers h widths first w = record {
  row = d.at;
  begun = record {
    room = w.room;
    widths_room = w.room;
    first_at = λ z. refl;
    first_widths = λ z. refl;
    later_at = λ l. absurd (omega arith);
    later_widths = λ l. absurd (omega arith);
    zeros = λ z. w.zeros;
  };
  same = w.same;
}

-- what is not Damaged is Disk
pub disk_else : (T : Type 0) (e : SourceFault) → (IsErrOf {T = T} (Err e) Damaged → ⊥) → e ≡ Disk
disk_else T Damaged none = absurd (none refl)
disk_else T Disk none = refl

-- ---- one block more

same_count : (bytes : List ℕ) (d : ListDecoder) (numbers ys : List ℕ) → HasGiven bytes d numbers → Spells bytes ys
    → length ys ≡ d.count
same_count bytes d numbers ys h s = sym s.count ∙ h.count

-- the numbers that were given are the first of any list that is spelled
pub given_front : (bytes : List ℕ) (d : ListDecoder) (numbers ys : List ℕ) → HasGiven bytes d numbers → Spells bytes ys
    → take (128 * d.given) ys ≡ numbers
given_front bytes d numbers ys h s = h.read.only ys s (ap (λ (n : ℕ). n / 128) (same_count bytes d numbers ys h s))

pub block_more : (bytes : List ℕ) (d : ListDecoder) (numbers : List ℕ) (h : HasGiven bytes d numbers) (at width : ℕ) (widths xs after : List ℕ)
    → d.given < blocks_of d → (b : Begins bytes d h.row at widths) → width ≡ slice_index widths (d.given % 16)
    → IsRightBlock bytes at width d.seed xs → IsEntry bytes (blocks_of d) d.given at xs
    → length after ≡ 4 → ((c : ℕ) → c < 4 → slice_index after c ≡ slice_index xs (124 + c))
    → ((ys : List ℕ) → IsRightBlock bytes at width d.seed ys → xs ≡ ys)
    → ReadTo bytes (blocks_of d) (d.given + 1) (numbers ++ xs) after (at + 16 * width) b.row
block_more bytes d numbers h at width widths xs after some b w right entry four ends unique =
    let same : width ≡ slice_index bytes (b.row + d.given % 16) = w ∙ b.same (d.given % 16) (omega arith) in
    subst (λ (n : ℕ). ReadTo bytes (blocks_of d) (d.given + 1) (numbers ++ xs) after (at + 16 * n) b.row) (sym same)
    (read_more bytes (blocks_of d) d.given numbers d.seed d.at h.row at b.row xs after some h.read b.begun
    (record { offset = entry.offset; last = entry.last; good = subst (λ (n : ℕ). IsRightBlock bytes at n d.seed xs) same right })
    four ends (λ ys g. unique ys (subst (λ (n : ℕ). IsRightBlock bytes at n d.seed ys) (sym same) g.good)))

-- the block of a list that is spelled is there
pub record IsThere (bytes : List ℕ) (d : ListDecoder) (at width : ℕ) (ys : List ℕ) : Type 0 where
  pub right : IsRightBlock bytes at width d.seed (block d.given ys)
  pub entry : IsEntry bytes (blocks_of d) d.given at (block d.given ys)

pub block_there : (bytes : List ℕ) (d : ListDecoder) (numbers ys : List ℕ) (h : HasGiven bytes d numbers) (at width : ℕ) (widths : List ℕ)
    → d.given < blocks_of d → Begins bytes d h.row at widths → width ≡ slice_index widths (d.given % 16) → Spells bytes ys
    → IsThere bytes d at width ys
block_there bytes d numbers ys h at width widths some b w s =
    let same : width ≡ slice_index bytes (b.row + d.given % 16) = w ∙ b.same (d.given % 16) (omega arith) in
    let g = entry_of bytes (blocks_of d) d.given numbers d.seed d.at h.row at b.row some h.read b.begun ys s
    (ap (λ (n : ℕ). n / 128) (same_count bytes d numbers ys h s)) in
    record {
      right = subst (λ (n : ℕ). IsRightBlock bytes at n d.seed (block d.given ys)) (sym same) g.good;
      entry = record { offset = g.offset; last = g.last };
    }

-- no list is spelled where the next metablock can't begin
pub none_begins : (bytes : List ℕ) (d : ListDecoder) (numbers ys : List ℕ) → HasGiven bytes d numbers → d.given < blocks_of d
    → Breaks bytes (blocks_of d) d.given d.at → Spells bytes ys → ⊥
none_begins bytes d numbers ys h some broken s =
    not_begun bytes (blocks_of d) d.given numbers d.seed d.at h.row some h.read broken ys s
    (ap (λ (n : ℕ). n / 128) (same_count bytes d numbers ys h s))

-- ---- the tail

last_is : (bytes : List ℕ) (d : ListDecoder) (numbers : List ℕ) → HasGiven bytes d numbers → d.given ≡ blocks_of d
    → last_given d ≡ slice_index (0 ∷ numbers) (length numbers)
last_is bytes d numbers h all =
    let e : 128 * d.given + 3 ≡ 3 + length numbers = omega (arith, h.read.long) in
    ap (λ (xs : List ℕ). slice_index xs 3) h.read.seed_is ∙ get_seed d.given numbers 3 (omega arith)
    ∙ ap (slice_index (0 ∷ 0 ∷ 0 ∷ 0 ∷ numbers)) e ∙ three_zeros numbers (length numbers)

read_all : (bytes : List ℕ) (d : ListDecoder) (numbers : List ℕ) (h : HasGiven bytes d numbers) → d.given ≡ blocks_of d
    → ReadTo bytes (blocks_of d) (blocks_of d) numbers d.seed d.at h.row
read_all bytes d numbers h all = subst (λ (k : ℕ). ReadTo bytes (blocks_of d) k numbers d.seed d.at h.row) all h.read

-- the tail of a list that is spelled is there
pub tail_there : (bytes : List ℕ) (d : ListDecoder) (numbers ys : List ℕ) → HasGiven bytes d numbers → d.given ≡ blocks_of d
    → Spells bytes ys → IsTail bytes d.at (last_given d) (tail_count d) (drop (128 * blocks_of d) ys)
tail_there bytes d numbers ys h all s =
    (tail_of bytes d.count (blocks_of d) numbers d.seed d.at h.row (last_given d) h.count refl (read_all bytes d numbers h all)
    (last_is bytes d numbers h all) ys s).1

-- with the tail the numbers are a list, and it is spelled
pub spelled_whole : (bytes : List ℕ) (d : ListDecoder) (numbers tail : List ℕ) → HasGiven bytes d numbers → d.given ≡ blocks_of d
    → 4 ≤ length bytes → d.count ≤ longest_list → IsTail bytes d.at (last_given d) (tail_count d) tail
    → ((ys : List ℕ) → IsTail bytes d.at (last_given d) (tail_count d) ys → ys ≡ tail) → Spells bytes (numbers ++ tail)
spelled_whole bytes d numbers tail h all room short t unique =
    whole bytes d.count (blocks_of d) numbers d.seed d.at h.row (last_given d) (numbers ++ tail) room h.count short refl
    (read_all bytes d numbers h all) (last_is bytes d numbers h all)
    (record { done = tail; out_is = refl; tail = t; only = unique })

-- where nothing is left there is no number more
pub none_left : (bytes : List ℕ) (at before : ℕ) → at ≡ length bytes → IsTail bytes at before 0 []
unfolding tail_bytes
none_left bytes at before e = record { long = refl; climbs = tt; spelled = drop_all at bytes (omega (arith, e)) }

pub none_more : (bytes : List ℕ) (at before : ℕ) (ys : List ℕ) → IsTail bytes at before 0 ys → ys ≡ []
none_more bytes at before ys t = nil_from_length ys t.long
