-- Which of the segments has the document of a number: the one whose span the number lies in, or none.
use Rattle.std.proofs.Common.{◌≡◌, ◌⊎◌, inl, inr, ⊎_elim, ℕ, zero, suc, ◌-◌, ◌<◌, ◌≤◌, ◌||◌, ◌&&◌, ◌+◌, not, sum_by, filter, Bool, true, false, cond, List, [], ◌∷◌, ◌++◌, length, length-append, get_or, slice_index, Option, Some, None, Result, Ok, Err, String, Global, string_bytes, refl, ap, sym, ◌∙◌, subst, arith, eq-eqb}
use Rattle.std.specs.Prelude.{All, find, if◌then◌else◌}
use Rattle.std.specs.List.{AllByRecursion}
use Rattle.std.specs.List.Sorted.{IsStrictlyIncreasing}
use Rattle.std.specs.Option.{option_map}
use Rattle.std.proofs.lemmas.Bool.{ne_eqb, eqb-true}
use Rattle.std.proofs.lemmas.List.Elements.{recursion_from_All}
use Rattle.std.proofs.lemmas.List.Kept.{AllPairs-from_increasing}
use Rattle.pk_manifest.specs.declared.manifest.Part.{Part as Entry}
use Rattle.pk_model.specs.Collection.{Doc, IsCollection, has_number, is_live, numbers_of}
use Rattle.pk_model.specs.Steps.{text_of}
use Rattle.pk_posting.specs.declared.fault.ReadFault.{ReadFault}
use Rattle.pk_segment.specs.Opened.{IsSegmentOf, first_of, last_of}
use Rattle.pk_posting.specs.declared.source.SourceFault.{SourceFault}
use Rattle.pk_segment.specs.Reading as reading
use Rattle.pk_open.specs.declared.opened.OpenSegment.{OpenSegment}
use Rattle.pk_open.specs.Showing.{LivesAt, LooksUpAs, Spans}
use Rattle.pk_open.specs.Opened.{AreOpenOf, IsOpenOf, documents_at, left_of, present, with_deleted}
use Rattle.pk_state.specs.Committed.{Committed, Names, Stored, all_in, live_in, live_of, lists, whole_of}
use Rattle.pk_state.specs.Holds.{SpellsEntries}
use Rattle.pk_dead.proofs.PostingLemmas.{posting_rises}
use Rattle.pk_dead.proofs.SetLemmas.{same_members}
use Rattle.pk_model.proofs.CollectionLemmas.{rising-filter}
use Rattle.pk_state.proofs.MemberLemmas.{Above, In, above_in, listed, live_filter, live_says, says_live}
use Rattle.std.proofs.lemmas.List.{length-map}
use Rattle.std.proofs.lemmas.List.Sums.{sum_by-cons}
use Rattle.std.specs.Bool.{then_some}
use Rattle.pk_state.proofs.WholeLemmas.{LiveAs, above_back, above_front, all_cons, collection_above, increasing, live_cons, live_each, live_sub, not_live, sub_above, sub_in}

-- a test is one or the other
by_test : (P : Type 0) (b : Bool) → (b ≡ true → P) → (b ≡ false → P) → P
by_test P true h k = h refl
by_test P false h k = k refl

not_both : (b : Bool) → b ≡ true → b ≡ false → ⊥
not_both b h k = true_is_false (sym h ∙ k)
  where
    true_is_false : true ≡ false → ⊥
    true_is_false e = cc

-- ---- which numbers are live
-- in a list that begins with a document
live_here : (n : ℕ) (d : Doc) (docs : List Doc) → d.number ≡ n → is_live n (d ∷ docs) ≡ true
live_here n d docs e = ap (λ b. b || is_live n docs) (eq-eqb d.number n e)

live_there : (n : ℕ) (d : Doc) (docs : List Doc) → is_live n docs ≡ true → is_live n (d ∷ docs) ≡ true
live_there n d docs e = by_test (is_live n (d ∷ docs) ≡ true) (has_number n d) (λ b. ap (λ x. x || is_live n docs) b) (λ b. ap (λ x. x || is_live n docs) b ∙ e)

-- it is the first, or among the others
live_where : (n : ℕ) (d : Doc) (docs : List Doc) → is_live n (d ∷ docs) ≡ true → (d.number ≡ n) ⊎ (is_live n docs ≡ true)
live_where n d docs e = by_test ((d.number ≡ n) ⊎ (is_live n docs ≡ true)) (has_number n d) (λ b. inl (eqb-true d.number n b)) (λ b. inr (sym (ap (λ x. x || is_live n docs) b) ∙ e))

dead_here : (n : ℕ) (d : Doc) (docs : List Doc) → (d.number ≡ n → ⊥) → is_live n docs ≡ false → is_live n (d ∷ docs) ≡ false
dead_here n d docs apart e = ap (λ b. b || is_live n docs) (ne_eqb d.number n apart) ∙ e

-- the number at a place
live_at : (docs : List Doc) (k : ℕ) → k < length docs → is_live (slice_index (numbers_of docs) k) docs ≡ true
live_at [] k lt = absurd (omega arith)
live_at (d ∷ docs) zero lt = live_here d.number d docs refl
live_at (d ∷ docs) (suc k) lt = live_there (slice_index (numbers_of docs) k) d docs (live_at docs k (omega arith))

-- ---- in two lists
dead-text : (n : ℕ) (docs : List Doc) → is_live n docs ≡ false → text_of n docs ≡ []
dead-text n [] e = refl
dead-text n (d ∷ docs) e = by_test (text_of n (d ∷ docs) ≡ []) (has_number n d)
    (λ b. absurd (not_both (is_live n (d ∷ docs)) (ap (λ x. x || is_live n docs) b) e))
    (λ b. ap (λ x. if x then d.text else text_of n docs) b ∙ dead-text n docs (sym (ap (λ x. x || is_live n docs) b) ∙ e))

-- where the second has none, the first alone says it
pub live-first : (n : ℕ) (xs ys : List Doc) → is_live n ys ≡ false → (is_live n (xs ++ ys) ≡ is_live n xs) × (text_of n (xs ++ ys) ≡ text_of n xs)
live-first n [] ys e = (e, dead-text n ys e)
live-first n (d ∷ xs) ys e =
    let rest = live-first n xs ys e in
    (ap (λ b. has_number n d || b) rest.0, ap (λ t. if has_number n d then d.text else t) rest.1)

-- where the first has none, the second says it
pub live-second : (n : ℕ) (xs ys : List Doc) → is_live n xs ≡ false → (is_live n (xs ++ ys) ≡ is_live n ys) × (text_of n (xs ++ ys) ≡ text_of n ys)
live-second n [] ys e = (refl, refl)
live-second n (d ∷ xs) ys e = by_test ((is_live n ((d ∷ xs) ++ ys) ≡ is_live n ys) × (text_of n ((d ∷ xs) ++ ys) ≡ text_of n ys)) (has_number n d)
    (λ b. absurd (not_both (is_live n (d ∷ xs)) (ap (λ x. x || is_live n xs) b) e))
    (λ b. let rest = live-second n xs ys (sym (ap (λ x. x || is_live n xs) b) ∙ e) in
    (ap (λ x. x || is_live n (xs ++ ys)) b ∙ rest.0, ap (λ x. if x then d.text else text_of n (xs ++ ys)) b ∙ rest.1))

-- where the first has it, the first says it
pub live-found : (n : ℕ) (xs ys : List Doc) → is_live n xs ≡ true → (is_live n (xs ++ ys) ≡ true) × (text_of n (xs ++ ys) ≡ text_of n xs)
live-found n [] ys e = absurd (not_both false e refl)
live-found n (d ∷ xs) ys e = by_test ((is_live n ((d ∷ xs) ++ ys) ≡ true) × (text_of n ((d ∷ xs) ++ ys) ≡ text_of n (d ∷ xs))) (has_number n d)
    (λ b. (ap (λ x. x || is_live n (xs ++ ys)) b, ap (λ x. if x then d.text else text_of n (xs ++ ys)) b ∙ sym (ap (λ x. if x then d.text else text_of n xs) b)))
    (λ b. let rest = live-found n xs ys (sym (ap (λ x. x || is_live n xs) b) ∙ e) in
    (ap (λ x. x || is_live n (xs ++ ys)) b ∙ rest.0, ap (λ x. if x then d.text else text_of n (xs ++ ys)) b ∙ rest.1 ∙ sym (ap (λ x. if x then d.text else text_of n xs) b)))

-- ---- within bounds
pub live_below : (n low next : ℕ) (docs : List Doc) → AllByRecursion (λ (d : Doc). (low ≤ d.number) × (d.number < next)) docs → is_live n docs ≡ true → n < next
live_below n low next [] all live = absurd (not_both false live refl)
live_below n low next (d ∷ docs) all live =
    ⊎_elim (λ (e : d.number ≡ n). let lt : d.number < next = all.0.1 in let l : n < next = omega arith in l) (λ rest. live_below n low next docs all.1 rest) (live_where n d docs live)

pub dead_below : (n low next : ℕ) (docs : List Doc) → AllByRecursion (λ (d : Doc). (low ≤ d.number) × (d.number < next)) docs → n < low → is_live n docs ≡ false
dead_below n low next [] all lt = refl
dead_below n low next (d ∷ docs) all lt = let le : low ≤ d.number = all.0.0 in dead_here n d docs (λ e. absurd (omega arith)) (dead_below n low next docs all.1 lt)

-- ---- rising numbers
abbrev AreAbove : ℕ → List Doc → Type 0
AreAbove n [] = Unit {0}
AreAbove n (d ∷ docs) = (n < d.number) × AreAbove n docs

abbrev pub Rise : List Doc → Type 0
Rise [] = Unit {0}
Rise (d ∷ docs) = AreAbove d.number docs × Rise docs

above_from : (n : ℕ) (docs : List Doc) → ((k : ℕ) → k < length (numbers_of docs) → n < slice_index (numbers_of docs) k) → AreAbove n docs
above_from n [] h = tt
above_from n (d ∷ docs) h = (h 0 (omega arith), above_from n docs (λ k l. h (suc k) (omega arith)))

rise_from : (docs : List Doc) → ((i j d : ℕ) → i < j → j < length (numbers_of docs) → get_or (numbers_of docs) i d < get_or (numbers_of docs) j d) → Rise docs
rise_from [] h = tt
rise_from (d ∷ docs) h = (above_from d.number docs (λ k l. h 0 (suc k) 0 (omega arith) (omega arith)), rise_from docs (λ i j e a l. h (suc i) (suc j) e (omega arith) (omega arith)))

pub rises : (docs : List Doc) → IsStrictlyIncreasing (numbers_of docs) → Rise docs
rises docs h = rise_from docs (AllPairs-from_increasing (numbers_of docs) h)

above_live : (n m : ℕ) (docs : List Doc) → AreAbove n docs → is_live m docs ≡ true → n < m
above_live n m [] above live = absurd (not_both false live refl)
above_live n m (d ∷ docs) above live = ⊎_elim (λ (e : d.number ≡ m). let lt : n < d.number = above.0 in let l : n < m = omega arith in l) (λ rest. above_live n m docs above.1 rest) (live_where m d docs live)

above_dead : (n m : ℕ) (docs : List Doc) → AreAbove m docs → n ≤ m → is_live n docs ≡ false
above_dead n m [] above le = refl
above_dead n m (d ∷ docs) above le = let lt : m < d.number = above.0 in dead_here n d docs (λ e. absurd (omega arith)) (above_dead n m docs above.1 le)

-- of two lists
above_second : (n : ℕ) (xs ys : List Doc) → AreAbove n (xs ++ ys) → AreAbove n ys
above_second n [] ys above = above
above_second n (d ∷ xs) ys above = above_second n xs ys above.1

above_first : (n : ℕ) (xs ys : List Doc) → AreAbove n (xs ++ ys) → AreAbove n xs
above_first n [] ys above = tt
above_first n (d ∷ xs) ys above = (above.0, above_first n xs ys above.1)

rise_second : (xs ys : List Doc) → Rise (xs ++ ys) → Rise ys
rise_second [] ys rise = rise
rise_second (d ∷ xs) ys rise = rise_second xs ys rise.1

rise_first : (xs ys : List Doc) → Rise (xs ++ ys) → Rise xs
rise_first [] ys rise = tt
rise_first (d ∷ xs) ys rise = (above_first d.number xs ys rise.0, rise_first xs ys rise.1)

-- what isn't above a number of the first is none of the second
none_behind : (n m : ℕ) (xs ys : List Doc) → Rise (xs ++ ys) → is_live m xs ≡ true → n ≤ m → is_live n ys ≡ false
none_behind n m [] ys rise live le = absurd (not_both false live refl)
none_behind n m (d ∷ xs) ys rise live le = ⊎_elim (λ (e : d.number ≡ m). above_dead n d.number ys (above_second d.number xs ys rise.0) (omega arith)) (λ rest. none_behind n m xs ys rise.1 rest le) (live_where m d xs live)

-- what isn't below a number of the second is none of the first
none_before : (n m : ℕ) (xs ys : List Doc) → Rise (xs ++ ys) → is_live m ys ≡ true → m ≤ n → is_live n xs ≡ false
none_before n m [] ys rise live le = refl
none_before n m (d ∷ xs) ys rise live le =
    let lt : d.number < m = above_live d.number m ys (above_second d.number xs ys rise.0) live in
    dead_here n d xs (λ e. absurd (omega arith)) (none_before n m xs ys rise.1 live le)

-- ---- the span of a segment
-- a live number is at least the first
first_least : (n : ℕ) (docs : List Doc) → Rise docs → is_live n docs ≡ true → slice_index (numbers_of docs) 0 ≤ n
first_least n [] rise live = absurd (not_both false live refl)
first_least n (d ∷ docs) rise live = by_where (live_where n d docs live)
  where
    by_where : (d.number ≡ n) ⊎ (is_live n docs ≡ true) → d.number ≤ n
    by_where (inl e) = omega arith
    by_where (inr rest) = let lt : d.number < n = above_live d.number n docs rise.0 rest in omega arith

-- and at most the last
last_most : (n : ℕ) (d : Doc) (docs : List Doc) → Rise (d ∷ docs) → is_live n (d ∷ docs) ≡ true → n ≤ slice_index (numbers_of (d ∷ docs)) (length docs)
last_most n d [] rise live = by_where (live_where n d [] live)
  where
    by_where : (d.number ≡ n) ⊎ (is_live n [] ≡ true) → n ≤ d.number
    by_where (inl e) = omega arith
    by_where (inr rest) = absurd (not_both false rest refl)
last_most n d (e ∷ docs) rise live =
    let next : d.number < e.number = rise.0.0 in
    let last : e.number ≤ slice_index (numbers_of (e ∷ docs)) (length docs) = last_most e.number e docs rise.1 (live_here e.number e docs refl) in
    ⊎_elim (λ (same : d.number ≡ n). let l : n ≤ slice_index (numbers_of (e ∷ docs)) (length docs) = omega arith in l) (λ rest. last_most n e docs rise.1 rest) (live_where n d (e ∷ docs) live)

-- so it lies in the span
in_span : (s : OpenSegment) (docs : List Doc) (n : ℕ) → IsSegmentOf s.segment docs → Rise docs → is_live n docs ≡ true → Spans s n
in_span s [] n is rise live = absurd (not_both false live refl)
in_span s (d ∷ docs) n is rise live =
    let back : length (d ∷ docs) - 1 ≡ length docs = omega arith in
    let last : last_of s.segment ≡ slice_index (numbers_of (d ∷ docs)) (length docs) = is.last_is ∙ ap (slice_index (numbers_of (d ∷ docs))) back in
    (omega (arith, is.first_is, first_least n (d ∷ docs) rise live), omega (arith, last, last_most n d docs rise live))

-- the first number and the last are live
first_live : (s : OpenSegment) (docs : List Doc) → IsSegmentOf s.segment docs → 0 < length docs → is_live (first_of s.segment) docs ≡ true
first_live s docs is some = subst (λ n. is_live n docs ≡ true) (sym is.first_is) (live_at docs 0 some)

last_live : (s : OpenSegment) (docs : List Doc) → IsSegmentOf s.segment docs → 0 < length docs → is_live (last_of s.segment) docs ≡ true
last_live s docs is some = subst (λ n. is_live n docs ≡ true) (sym is.last_is) (live_at docs (length docs - 1) (omega (arith, some)))

-- ---- all segments
-- none is empty
abbrev pub HaveSome : List Stored → Type 0
HaveSome stored = AllByRecursion (λ (s : Stored). 0 < length s.documents) stored

pub spelled_some : (bytes : List ℕ) (es : List Entry) (stored : List Stored) → SpellsEntries bytes es stored → HaveSome stored
spelled_some bytes [] [] spells = tt
spelled_some bytes [] (s ∷ stored) spells = absurd spells
spelled_some bytes (e ∷ es) [] spells = absurd spells
spelled_some bytes (e ∷ es) (s ∷ stored) spells = (spells.0.segment.are.some, spelled_some bytes es stored spells.1)

-- the number of one segment's document is one of all
live_in_all : (n : ℕ) (stored : List Stored) (i : ℕ) → is_live n (documents_at stored i) ≡ true → is_live n (all_in stored) ≡ true
live_in_all n [] i live = absurd (not_both false live refl)
live_in_all n (s ∷ stored) zero live = (live-found n s.documents (all_in stored) live).0
live_in_all n (s ∷ stored) (suc i) live = by_test (is_live n (all_in (s ∷ stored)) ≡ true) (is_live n s.documents)
    (λ yes. (live-found n s.documents (all_in stored) yes).0) (λ no. (live-second n s.documents (all_in stored) no).0 ∙ live_in_all n stored i live)

-- a segment is one of the documents at its place, and has some
one_of : (os : List OpenSegment) (stored : List Stored) (i : ℕ) (o : OpenSegment) → AreOpenOf os stored → HaveSome stored → i < length os → o ≡ get_or os i o
    → IsSegmentOf o.segment (documents_at stored i) × (0 < length (documents_at stored i))
one_of [] stored i o are some lt at = absurd (omega arith)
one_of (x ∷ os) [] i o are some lt at = absurd are
one_of (x ∷ os) (s ∷ stored) zero o are some lt at = (subst (λ (y : OpenSegment). IsSegmentOf y.segment s.documents) (sym at) are.0.segment, some.0)
one_of (x ∷ os) (s ∷ stored) (suc i) o are some lt at = one_of os stored i o are.1 some.1 (omega arith) at

-- the segment in whose span a number lies says it for all
pub in_one : (os : List OpenSegment) (stored : List Stored) (i : ℕ) (o : OpenSegment) (n : ℕ) → AreOpenOf os stored → HaveSome stored → Rise (all_in stored) → i < length os → o ≡ get_or os i o → Spans o n
    → (is_live n (all_in stored) ≡ is_live n (documents_at stored i)) × (text_of n (all_in stored) ≡ text_of n (documents_at stored i))
in_one [] stored i o n are some rise lt at span = absurd (omega arith)
in_one (x ∷ os) [] i o n are some rise lt at span = absurd are
in_one (x ∷ os) (s ∷ stored) zero o n are some rise lt at span =
    let is = subst (λ (y : OpenSegment). IsSegmentOf y.segment s.documents) (sym at) are.0.segment in
    live-first n s.documents (all_in stored) (none_behind n (last_of o.segment) s.documents (all_in stored) rise (last_live o s.documents is some.0) span.1)
in_one (x ∷ os) (s ∷ stored) (suc i) o n are some rise lt at span =
    let one = one_of os stored i o are.1 some.1 (omega arith) at in
    let before = none_before n (first_of o.segment) s.documents (all_in stored) rise (live_in_all (first_of o.segment) stored i (first_live o (documents_at stored i) one.0 one.1)) span.0 in
    let here = live-second n s.documents (all_in stored) before in
    let rest = in_one os stored i o n are.1 some.1 (rise_second s.documents (all_in stored) rise) (omega arith) at span in
    (here.0 ∙ rest.0, here.1 ∙ rest.1)

-- what stands at a place, whatever is named for a place past the end
pub get_same : {X : Type 0} (xs : List X) (i : ℕ) (x y : X) → i < length xs → get_or xs i x ≡ get_or xs i y
get_same [] i x y lt = absurd (omega arith)
get_same (z ∷ xs) zero x y lt = refl
get_same (z ∷ xs) (suc i) x y lt = get_same xs i x y (omega arith)

-- a segment at a place, whose span the number lies in
pub located : (os : List OpenSegment) (i n : ℕ) (o : OpenSegment) → (i < length os) × ((d : OpenSegment) → Spans (get_or os i d) n) → o ≡ get_or os i o → (i < length os) × Spans o n
located os i n o found at = (found.0, subst (λ (x : OpenSegment). Spans x n) (sym at) (found.1 o))

-- where the number lies in no span, no segment has it
pub in_none : (n : ℕ) (os : List OpenSegment) (stored : List Stored) → AreOpenOf os stored → Rise (all_in stored) → AllByRecursion (λ (o : OpenSegment). Spans o n → ⊥) os → is_live n (all_in stored) ≡ false
in_none n [] [] are rise none = refl
in_none n [] (s ∷ stored) are rise none = absurd are
in_none n (o ∷ os) [] are rise none = absurd are
in_none n (o ∷ os) (s ∷ stored) are rise none =
    let first : is_live n s.documents ≡ false = by_test (is_live n s.documents ≡ false) (is_live n s.documents) (λ yes. absurd (none.0 (in_span o s.documents n are.0.segment (rise_first s.documents (all_in stored) rise) yes))) (λ no. no) in
    (live-second n s.documents (all_in stored) first).0 ∙ in_none n os stored are.1 (rise_second s.documents (all_in stored) rise) none.1

-- ---- what a segment's reader answers
pub has_text : (n : ℕ) (docs : List Doc) (t : List ℕ) → reading.text_of docs n ≡ Some t → (is_live n docs ≡ true) × (text_of n docs ≡ t)
has_text n [] t e = cc
has_text n (d ∷ docs) t e = by_test ((is_live n (d ∷ docs) ≡ true) × (text_of n (d ∷ docs) ≡ t)) (has_number n d)
    (λ b.
    let at : Some d.text ≡ Some t = sym (ap (λ x. option_map (λ (y : Doc). y.text) (cond x (Some d) (find (has_number n) docs))) b) ∙ e in
    let same : d.text ≡ t = cc in
    (ap (λ x. x || is_live n docs) b, ap (λ x. if x then d.text else text_of n docs) b ∙ same))
    (λ b. let rest = has_text n docs t (sym (ap (λ x. option_map (λ (y : Doc). y.text) (cond x (Some d) (find (has_number n) docs))) b) ∙ e) in
    (ap (λ x. x || is_live n docs) b ∙ rest.0, ap (λ x. if x then d.text else text_of n docs) b ∙ rest.1))

some_is_none : {A : Type 0} (x : A) → Some x ≡ None → ⊥
some_is_none x e = cc

pub no_text : (n : ℕ) (docs : List Doc) → reading.text_of docs n ≡ None → is_live n docs ≡ false
no_text n [] e = refl
no_text n (d ∷ docs) e = by_test (is_live n (d ∷ docs) ≡ false) (has_number n d)
    (λ b. absurd (some_is_none d.text (sym (ap (λ x. option_map (λ (y : Doc). y.text) (cond x (Some d) (find (has_number n) docs))) b) ∙ e)))
    (λ b. ap (λ x. x || is_live n docs) b ∙ no_text n docs (sym (ap (λ x. option_map (λ (y : Doc). y.text) (cond x (Some d) (find (has_number n) docs))) b) ∙ e))

-- ---- what is present

-- deletions take no document out of an entry
pub all_present : (os : List OpenSegment) (stored : List Stored) → AreOpenOf os stored → all_in (present os stored) ≡ all_in stored
all_present [] [] are = refl
all_present [] (s ∷ stored) are = absurd are
all_present (o ∷ os) [] are = absurd are
all_present (o ∷ os) (s ∷ stored) are = all_cons (with_deleted o s) (present os stored) ∙ ap (λ ds. s.documents ++ ds) (all_present os stored are.1) ∙ sym (all_cons s stored)

-- a document has its text under its number
text_unique : (a : ℕ) (ds : List Doc) → Above a ds → (d : Doc) → In d ds → text_of d.number ds ≡ d.text
unfolding Above In
text_unique a [] r d m = absurd m
text_unique a (x ∷ ds) r d (inl e) = ap (λ b. if b then x.text else text_of d.number ds) (eq-eqb x.number d.number (ap (λ (y : Doc). y.number) e)) ∙ ap (λ (y : Doc). y.text) e
text_unique a (x ∷ ds) r d (inr m) =
    let above : x.number < d.number = above_in x.number ds d r.1 m in
    ap (λ b. if b then x.text else text_of d.number ds) (ne_eqb x.number d.number (λ e. omega (arith, e, above))) ∙ text_unique x.number ds r.1 d m

-- whether the document at a place lives, by the numbers that are deleted there
lives_at : (live : List Doc) (os : List OpenSegment) (stored : List Stored) (i : ℕ) (o : OpenSegment) → AreOpenOf os stored → i < length os → o ≡ get_or os i o → AllByRecursion (LiveAs live) (present os stored)
    → (n : ℕ) → is_live n (documents_at stored i) ≡ true → is_live n live ≡ not (lists n o.deleted)
unfolding LiveAs
lives_at live [] stored i o are lt at all n h = absurd (omega arith)
lives_at live (x ∷ os) [] i o are lt at all n h = absurd are
lives_at live (x ∷ os) (s ∷ stored) zero o are lt at all n h =
    let r = live_says n s.documents h in
    ap (λ k. is_live k live) (sym r.2) ∙ all.0 r.0 r.1 ∙ (λ j. not (lists (r.2 j) (sym at j).deleted))
lives_at live (x ∷ os) (s ∷ stored) (suc i) o are lt at all n h = lives_at live os stored i o are.1 (omega arith) at all.1 n h

-- ---- a look-up over all of them
module _ (os : List OpenSegment) (c : Committed) (are : AreOpenOf os c.stored) (whole : IsCollection (whole_of c)) (n : ℕ) where
  abbrev live : List Doc
  live = live_in (present os c.stored)

  rise_all : Rise (all_in c.stored)
  rise_all = rises (all_in c.stored) whole.rising

  above_all : Above 0 (all_in c.stored)
  above_all = collection_above (whole_of c) whole

  above_present : Above 0 (all_in (present os c.stored))
  above_present = subst (Above 0) (sym (all_present os c.stored are)) above_all

  -- a document that lives is one of all
  live_of_all : (d : Doc) → In d live → In d (all_in c.stored)
  live_of_all d m = subst (In d) (all_present os c.stored are) (sub_in live (all_in (present os c.stored)) (live_sub (present os c.stored)) d m)

  none_lives : is_live n (all_in c.stored) ≡ false → is_live n live ≡ false
  none_lives none = not_live n live (λ d m same. not_both (is_live n (all_in c.stored)) (subst (λ k. is_live k (all_in c.stored) ≡ true) same (says_live d (all_in c.stored) (live_of_all d m))) none)

  -- no document has the number 0
  pub none_zero : n ≡ 0 → is_live n live ≡ false
  none_zero zero_is = not_live n live (λ d m same. let some = above_in 0 (all_in c.stored) d above_all (live_of_all d m) in omega (arith, some, same, zero_is))

  -- the number lies in no span
  pub no_span : All (λ (o : OpenSegment). Spans o n → ⊥) os → is_live n live ≡ false
  no_span none = none_lives (in_none n os c.stored are rise_all (recursion_from_All _ os none))

  -- it lies in that of the segment at a place, which answers for all
  module _ (bytes : List ℕ) (es : List Entry) (spells : SpellsEntries bytes es c.stored) (i : ℕ) (o : OpenSegment) (lt : i < length os) (at : o ≡ get_or os i o) (span : Spans o n) where
    one : (is_live n (all_in c.stored) ≡ is_live n (documents_at c.stored i)) × (text_of n (all_in c.stored) ≡ text_of n (documents_at c.stored i))
    one = in_one os c.stored i o n are (spelled_some bytes es c.stored spells) rise_all lt at span

    says : is_live n (documents_at c.stored i) ≡ true → is_live n live ≡ not (lists n o.deleted)
    says = lives_at live os c.stored i o are lt at (live_each live 0 (present os c.stored) above_present (λ d m. refl)) n

    pub missing : is_live n (documents_at c.stored i) ≡ false → is_live n live ≡ false
    missing none = none_lives (one.0 ∙ none)

    pub dropped : lists n o.deleted ≡ true → is_live n live ≡ false
    dropped listed = by_test (is_live n live ≡ false) (is_live n (documents_at c.stored i)) (λ yes. says yes ∙ ap not listed) missing

    pub there : lists n o.deleted ≡ false → is_live n (documents_at c.stored i) ≡ true → is_live n live ≡ true
    there left here = says here ∙ ap not left

    -- the text is that of the one document of the number
    same_text : is_live n live ≡ true → text_of n live ≡ text_of n (documents_at c.stored i)
    same_text lives =
        let r = live_says n live lives in
        let in_live = text_unique 0 live (sub_above 0 live (all_in (present os c.stored)) (live_sub (present os c.stored)) above_present) r.0 r.1 in
        let in_all = text_unique 0 (all_in c.stored) above_all r.0 (live_of_all r.0 r.1) in
        subst (λ k. text_of k live ≡ text_of k (all_in c.stored)) r.2 (in_live ∙ sym in_all) ∙ one.1

    pub looked_up : lists n o.deleted ≡ false → (r : Result (Option (String Global)) ReadFault) → reading.TextAs (documents_at c.stored i) n r → LooksUpAs live n r
    looked_up left (Ok (Some t)) is =
        let here = has_text n (documents_at c.stored i) (string_bytes t) (sym is) in
        let lives = there left here.0 in
        (lives, same_text lives ∙ here.1)
    looked_up left (Ok None) is = missing (no_text n (documents_at c.stored i) (sym is))
    looked_up left (Err fault) is = is

    -- and so is the place
    pub placed : lists n o.deleted ≡ false → (b : Bool) → b ≡ is_live n (documents_at c.stored i) → LivesAt os c.stored n (Ok (then_some b i))
    placed left true is = (there left (sym is), sym is)
    placed left false is = missing (sym is)

-- ---- how many there are
left_long : (deleted : List ℕ) (docs : List Doc) → length (filter (λ d. not (lists d.number deleted)) docs) + length (filter (λ d. lists d.number deleted) docs) ≡ length docs
left_long deleted [] = refl
left_long deleted (d ∷ docs) = by (lists d.number deleted) (left_long deleted docs)
  where
    by : (b : Bool) → length (filter (λ d. not (lists d.number deleted)) docs) + length (filter (λ d. lists d.number deleted) docs) ≡ length docs
        → length (cond (not b) (d ∷ filter (λ d. not (lists d.number deleted)) docs) (filter (λ d. not (lists d.number deleted)) docs)) + length (cond b (d ∷ filter (λ d. lists d.number deleted) docs) (filter (λ d. lists d.number deleted) docs)) ≡ suc (length docs)
    by true more = omega (arith, more)
    by false more = omega (arith, more)

-- the numbers of the documents that are deleted are the deleted numbers
pub deleted_numbers : (deleted : List ℕ) (docs : List Doc) → IsStrictlyIncreasing deleted → IsStrictlyIncreasing (numbers_of docs) → Names deleted docs → numbers_of (filter (λ d. lists d.number deleted) docs) ≡ deleted
deleted_numbers deleted docs rising docs_rise names =
    same_members (numbers_of (filter (λ d. lists d.number deleted) docs)) deleted (rising-filter (λ d. lists d.number deleted) docs docs_rise) rising
    (λ k. listed k (filter (λ d. lists d.number deleted) docs) ∙ live_filter (λ m. lists m deleted) k docs ∙ named k)
  where
    and_none : (b : Bool) → (b && false) ≡ false
    and_none true = refl
    and_none false = refl

    named : (k : ℕ) → (is_live k docs && lists k deleted) ≡ lists k deleted
    named k = by_test ((is_live k docs && lists k deleted) ≡ lists k deleted) (lists k deleted)
        (λ yes. ap (λ b. b && lists k deleted) (names k yes))
        (λ no. ap (λ b. is_live k docs && b) no ∙ and_none (is_live k docs) ∙ sym no)

left_here : (o : OpenSegment) (s : Stored) → IsOpenOf o s → IsStrictlyIncreasing (numbers_of s.documents) → left_of o ≡ length (live_of (with_deleted o s))
left_here o s is rising =
    let all = left_long o.deleted s.documents in
    let gone : length (filter (λ d. lists d.number o.deleted) s.documents) ≡ length o.deleted = sym (length-map (filter (λ d. lists d.number o.deleted) s.documents) (λ (d : Doc). d.number)) ∙ ap length (deleted_numbers o.deleted s.documents (posting_rises o.deleted is.posting) rising is.names) in
    omega (arith, all, gone, is.segment.count_is)

count_each : (os : List OpenSegment) (stored : List Stored) (a : ℕ) → AreOpenOf os stored → Above a (all_in stored) → sum_by left_of os ≡ length (live_in (present os stored))
count_each [] [] a are r = refl
count_each [] (s ∷ stored) a are r = absurd are
count_each (o ∷ os) [] a are r = absurd are
count_each (o ∷ os) (s ∷ stored) a are r =
    let rise = subst (Above a) (all_cons s stored) r in
    sum_by-cons left_of o os ∙ ap (λ n. n + sum_by left_of os) (left_here o s are.0 (increasing a s.documents (above_front a s.documents (all_in stored) rise)))
    ∙ ap (λ n. length (live_of (with_deleted o s)) + n) (count_each os stored a are.1 (above_back a s.documents (all_in stored) rise))
    ∙ sym (ap length (live_cons (with_deleted o s) (present os stored)) ∙ length-append (live_of (with_deleted o s)) (live_in (present os stored)))

pub count_all : (os : List OpenSegment) (c : Committed) → AreOpenOf os c.stored → IsCollection (whole_of c) → sum_by left_of os ≡ length (live_in (present os c.stored))
count_all os c are whole = count_each os c.stored 0 are (collection_above (whole_of c) whole)

-- a look-up that failed met no damage
pub lives_fault : (os : List OpenSegment) (stored : List Stored) (n : ℕ) (r : Result (Option ℕ) SourceFault) (x y : SourceFault) → r ≡ Err x → x ≡ y → reading.IsNoDamage (reading.read_of y) → LivesAt os stored n r
lives_fault os stored n r x y e same cause = subst (LivesAt os stored n) (sym e) (subst (λ f. reading.IsNoDamage (reading.read_of f)) (sym same) cause)
