-- What opening the segments of a body rests on: which segments the entries open as, with which deletion lists.
use Rattle.std.proofs.Common.{◌≡◌, ℕ, suc, ◌+◌, ◌-◌, ◌*◌, ◌/◌, ◌<◌, ◌≤◌, ◌^◌, List, [], ◌∷◌, ◌++◌, length, drop, refl, sym, ap, ◌∙◌, subst, arith, append_assoc, append-nil, add-one, drop-cons, length-append, length-drop, Result, Ok, Err, None}
use Rattle.std.specs.Prelude.{All, slice_index, slice_index_or}
use Rattle.std.specs.List.{AllByRecursion}
use Rattle.std.proofs.lemmas.List.{drop_all, get_or-drop, length-take-le}
use Rattle.std.proofs.lemmas.List.Elements.{All-append, All-cons, All-nil}
use Rattle.pk_disk.specs.declared.units.Extent.{Extent}
use Rattle.pk_disk.specs.Units.{extent_bytes, start_of}
use Rattle.pk_manifest.specs.declared.manifest.Part.{Part as Entry}
use Rattle.pk_manifest.specs.Spelling.{Body}
use Rattle.pk_posting.specs.declared.fault.ReadFault.{ReadFault}
use Rattle.pk_posting.specs.declared.fault.ReadFault.TheVariants.{Damaged, Disk, Memory}
use Rattle.pk_segment.specs.declared.segment.Segment.{Segment}
use Rattle.pk_segment.specs.Fields.{entry_field, number_at}
use Rattle.pk_segment.specs.Opened.{IsOpened, first_of, last_of}
use Rattle.pk_state.specs.Kept.{EndsInside}
use Rattle.pk_open.specs.declared.opened.OpenSegment.{OpenSegment}
use Rattle.pk_open.specs.Opening.{ExtentOpensAs, IsGrown, IsOpenSoFar, OpenAsSegments, OpensAsSegment, OpensNext, ReadsOne, SegmentsAs, SpellsFew}
use Rattle.pk_posting.specs.Posting.{IsPosting, Spells, tail_bytes}
use Rattle.pk_posting.specs.Spelling.{AreBytes, spelled_length}
use Rattle.pk_posting.proofs.ByteLemmas.{spelling_is}
use Rattle.pk_posting.proofs.OneListLemmas.{one_list}
use Rattle.pk_posting.proofs.SpellingLemmas.{length_spelling, small_at, spelling_spells, widths_most}
use Rattle.pk_vbyte.specs.VariableByte.{vbyte}
use Rattle.pk_vbyte.proofs.CallerLemmas.{most_bytes}

-- ---- one segment

-- bytes open as one first and one last number
pub same_ends : (bytes : List ℕ) (size kind : ℕ) (s t : Segment) → IsOpened bytes size kind s → IsOpened bytes size kind t → (first_of s ≡ first_of t) × (last_of s ≡ last_of t)
same_ends bytes size kind s t a b =
    let count : a.header.count ≡ b.header.count = a.read.count_is ∙ sym b.read.count_is in
    (a.first_is ∙ sym b.first_is, a.last_is ∙ ap (λ (n : ℕ). number_at 0 (entry_field bytes (n - 1))) count ∙ sym b.last_is)

-- ---- one deletion list

-- an extent within a disk has all its bytes
pub length_extent : (bytes : List ℕ) (e : Extent) → EndsInside (length bytes) e → length (extent_bytes bytes e) ≡ e.bytes
length_extent bytes e room = length-take-le e.bytes (drop (start_of e) bytes) (omega (arith, room, length-drop (start_of e) bytes))

abbrev Tail : ℕ → List ℕ → ℕ
Tail before xs = length (tail_bytes before xs)

-- the numbers of a tail take five bytes each at most
tail_most : (before : ℕ) (xs : List ℕ) → AllByRecursion (λ (x : ℕ). x < 2 ^ 32) xs → Tail before xs ≤ 5 * length xs
unfolding tail_bytes
tail_most before [] small = omega arith
tail_most before (x ∷ xs) small =
    let here : x < 2 ^ 32 = small.0 in
    omega (arith, length-append (vbyte (x - before)) (tail_bytes x xs), most_bytes (x - before) (omega (arith, here)), tail_most x xs small.1)

all_small : (xs : List ℕ) → ((i : ℕ) → slice_index xs i < 2 ^ 32) → AllByRecursion (λ (x : ℕ). x < 2 ^ 32) xs
all_small [] small = tt
all_small (x ∷ xs) small = (small 0, all_small xs (λ i. small (suc i)))

-- a list has at most four bytes and five for each number
pub spelled_most : (xs : List ℕ) → IsPosting xs → spelled_length xs ≤ 4 + 5 * length xs
spelled_most xs posting =
    let small = small_at xs posting in
    let blocks = length xs / 128 in
    let left = drop (128 * blocks) xs in
    let widths = widths_most xs blocks small (omega arith) in
    let tail = tail_most (slice_index (0 ∷ xs) (128 * blocks)) left (all_small left (λ i. subst (λ (n : ℕ). n < 2 ^ 32) (sym (get_or-drop (128 * blocks) xs i 0)) (small (128 * blocks + i)))) in
    omega (arith, widths, tail, length-drop (128 * blocks) xs)

-- a result has one fault
pub only_fault : {T E : Type 0} (r : Result T E) (x y : E) → r ≡ Err x → r ≡ Err y → x ≡ y
only_fault r x y first second = let both : Err x ≡ Err y = sym first ∙ second in cc

-- what spells a list with few numbers is its spelling
pub few_spelled : (bytes : List ℕ) (count : ℕ) (dead : List ℕ) → AreBytes bytes → Spells bytes dead → length dead ≤ count → SpellsFew bytes count dead
few_spelled bytes count dead small spells few = record { posting = spells.posting; same = spelling_is bytes dead small spells; few = few }

pub few_spells : (bytes : List ℕ) (count : ℕ) (dead : List ℕ) → SpellsFew bytes count dead → Spells bytes dead
few_spells bytes count dead is = subst (λ (bs : List ℕ). Spells bs dead) (sym is.same) (spelling_spells dead is.posting)

-- bytes that spell a list with more numbers spell none with so few
pub not_few : (bytes : List ℕ) (count : ℕ) (read : List ℕ) → Spells bytes read → count < length read → (dead : List ℕ) → SpellsFew bytes count dead → ⊥
not_few bytes count read spells many dead is =
    let same : read ≡ dead = one_list bytes read dead spells (few_spells bytes count dead is) in
    absurd (omega (arith, many, ap length same, is.few))

-- nor do more bytes than so many numbers can have
pub too_long : (bytes : List ℕ) (e : Extent) (count : ℕ) → EndsInside (length bytes) e → 4 + 5 * count < e.bytes → (dead : List ℕ) → SpellsFew (extent_bytes bytes e) count dead → ⊥
too_long bytes e count inside many dead is =
    let long : length (extent_bytes bytes e) ≡ e.bytes = length_extent bytes e inside in
    absurd (omega (arith, many, is.few, long, ap length is.same, length_spelling dead, spelled_most dead is.posting))

-- ---- one entry

-- a fault of the segment is one of the entry
pub fault_segment : (bytes : List ℕ) (e : Entry) (why : ReadFault) → ReadsOne (ExtentOpensAs bytes e) (Err why) → ReadsOne (OpensAsSegment bytes e) (Err why)
fault_segment bytes e Damaged h = λ o opens. h o.segment opens.opened
fault_segment bytes e Disk h = tt
fault_segment bytes e Memory h = tt

-- a fault of an entry is one of its segment with bounds
pub fault_next : (bytes : List ℕ) (low next : ℕ) (e : Entry) (why : ReadFault) → ReadsOne (OpensAsSegment bytes e) (Err why) → ReadsOne (OpensNext bytes low next e) (Err why)
fault_next bytes low next e Damaged h = λ s opens. h s opens.0
fault_next bytes low next e Disk h = tt
fault_next bytes low next e Memory h = tt

-- ---- the entries one after another

module _ (bytes : List ℕ) (next : ℕ) (entries : List Entry) (low : ℕ) (segments : List OpenSegment) where
  -- the next entry is open too
  pub more_so_far : (e : Entry) (left : List Entry) (s : OpenSegment) → IsOpenSoFar bytes next entries low segments (e ∷ left) → OpensNext bytes low next e s → IsOpenSoFar bytes next entries (last_of s.segment) (segments ++ s ∷ []) left
  more_so_far e left s before here = record {
    onward = λ rest opens. subst (OpenAsSegments bytes 0 next entries) (sym (append_assoc segments (s ∷ []) rest)) (before.onward (s ∷ rest) (here.0, here.1, here.2, opens));
    back = λ all opens. behind (before.back all opens);
  }
    where
      behind : (rest : List OpenSegment) × OpenAsSegments bytes low next (e ∷ left) rest → (rest : List OpenSegment) × OpenAsSegments bytes (last_of s.segment) next left rest
      behind ([], opens) = absurd opens
      behind (t ∷ rest, opens) = (rest, subst (λ (n : ℕ). OpenAsSegments bytes n next left rest) (same_ends (extent_bytes bytes e.extent) e.extent.bytes e.kind t.segment s.segment opens.0.opened here.0.opened).1 opens.3)

  -- where it is damaged, the entries open as no segments
  pub none_open : (e : Entry) (left : List Entry) → IsOpenSoFar bytes next entries low segments (e ∷ left) → ((s : OpenSegment) → OpensNext bytes low next e s → ⊥) → (all : List OpenSegment) → OpenAsSegments bytes 0 next entries all → ⊥
  none_open e left before none all opens = with_rest (before.back all opens)
    where
      with_rest : (rest : List OpenSegment) × OpenAsSegments bytes low next (e ∷ left) rest → ⊥
      with_rest ([], opens) = opens
      with_rest (s ∷ rest, opens) = none s (opens.0, opens.1, opens.2)

  -- with none left, these are all
  pub all_open : IsOpenSoFar bytes next entries low segments [] → OpenAsSegments bytes 0 next entries segments
  all_open before = subst (OpenAsSegments bytes 0 next entries) (append-nil segments) (before.onward [] tt)

-- and nothing is forgotten among what is deleted of one open segment more
pub more_grown : (os : List OpenSegment) (o : OpenSegment) → All IsGrown os → IsGrown o → All IsGrown (os ++ o ∷ [])
more_grown os o all one = All-append IsGrown os (o ∷ []) all (All-cons IsGrown o [] one (All-nil IsGrown))

-- what a place past the end reads as
abbrev pub no_entry : Entry
no_entry = record { segment = 0; extent = record { first = 0; units = 0; bytes = 0 }; kind = 0; dead = None }

-- The same, by the place of the next entry, of bytes and entries that are read again as they were.
module _ (bytes : List ℕ) (table : Body) (low : ℕ) (segments : List OpenSegment) (i : ℕ) (lt : i < length table.entries) (before : IsOpenSoFar bytes table.next_number table.entries low segments (drop i table.entries))
    (here : List ℕ) (same : here ≡ bytes) (entries : List Entry) (all : entries ≡ table.entries) where
  ahead : IsOpenSoFar bytes table.next_number table.entries low segments (slice_index_or table.entries i no_entry ∷ drop (i + 1) table.entries)
  ahead = subst (IsOpenSoFar bytes table.next_number table.entries low segments) (drop-cons table.entries i no_entry lt ∙ (rw add-one refl)) before

  moved : (r : Result OpenSegment ReadFault) → ReadsOne (OpensNext here low table.next_number (slice_index_or entries i no_entry)) r → ReadsOne (OpensNext bytes low table.next_number (slice_index_or table.entries i no_entry)) r
  moved r h = subst (λ (b : List ℕ). ReadsOne (OpensNext b low table.next_number (slice_index_or table.entries i no_entry)) r) same
      (subst (λ (es : List Entry). ReadsOne (OpensNext here low table.next_number (slice_index_or es i no_entry)) r) all h)

  pub next_so_far : (s : OpenSegment) → OpensNext here low table.next_number (slice_index_or entries i no_entry) s → IsOpenSoFar bytes table.next_number table.entries (last_of s.segment) (segments ++ s ∷ []) (drop (i + 1) table.entries)
  next_so_far s opens = more_so_far bytes table.next_number table.entries low segments (slice_index_or table.entries i no_entry) (drop (i + 1) table.entries) s ahead (moved (Ok s) opens)

  fault_here : (why : ReadFault) → ReadsOne (OpensNext bytes low table.next_number (slice_index_or table.entries i no_entry)) (Err why) → SegmentsAs bytes table (Err why)
  fault_here Damaged h = none_open bytes table.next_number table.entries low segments (slice_index_or table.entries i no_entry) (drop (i + 1) table.entries) ahead h
  fault_here Disk h = tt
  fault_here Memory h = tt

  pub fault_so_far : (why : ReadFault) → ReadsOne (OpensNext here low table.next_number (slice_index_or entries i no_entry)) (Err why) → SegmentsAs bytes table (Err why)
  fault_so_far why h = fault_here why (moved (Err why) h)

-- with no entry left, the segments are those of all of them
pub end_so_far : (bytes : List ℕ) (table : Body) (low : ℕ) (segments : List OpenSegment) (i : ℕ) → length table.entries ≤ i → IsOpenSoFar bytes table.next_number table.entries low segments (drop i table.entries) → OpenAsSegments bytes 0 table.next_number table.entries segments
end_so_far bytes table low segments i le before = all_open bytes table.next_number table.entries low segments (subst (IsOpenSoFar bytes table.next_number table.entries low segments) (drop_all i table.entries le) before)
