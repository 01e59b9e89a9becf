-- Once the words at their heads are read, inputs stand where so many of the words of their documents
-- were passed.
use Rattle.std.proofs.Common.{◌≡◌, ◌∙◌, ℕ, zero, suc, ◌-◌, ◌<◌, ◌≤◌, Bool, true, false, List, [], ◌∷◌, length, slice_index, Option, None, Some, refl, sym, ap, subst, arith}
use Rattle.std.specs.Prelude.{All, slice_get}
use Rattle.std.proofs.lemmas.List.{length-map}
use Rattle.std.proofs.lemmas.List.Elements.{All-head, All-tail}
use Rattle.std.proofs.lemmas.Option.{slice_get_past}
use Rattle.pk_disk.specs.Units.{extent_bytes}
use Rattle.pk_disk.specs.declared.units.Extent.{Extent}
use Rattle.pk_model.specs.Terms.{terms_of}
use Rattle.pk_segment.specs.Spelling.{SegmentSpells}
use Rattle.pk_state.specs.Committed.{Stored}
use Rattle.pk_join.specs.declared.input.MergeInput.{MergeInput}
use Rattle.pk_join.specs.declared.walk_input.Input.{Input}
use Rattle.pk_join.specs.Counted.{passed_by}
use Rattle.pk_join.specs.Inputs.{SpellsInputs}
use Rattle.pk_join.specs.Listed.{AreListsOf, ListSource, head_of, read_of, source_of, total_of, word_of}
use Rattle.pk_join.specs.Noted.{head_at, least_of}
use Rattle.pk_join.specs.WalkInput.{HaveExtentsOf, Holds, IsRead, heads_of, lists_of, passed_in, passed_of}
use Rattle.pk_join.specs.Walking.{AreListed, StandAt, to_come, total_at, words_at}
use Rattle.pk_join.proofs.HeadLemmas.{lesser_none, none_least}
use Rattle.pk_join.proofs.TermWalkLemmas.{HaveMore}
use Rattle.pk_join.proofs.WordLemmas.{read_most, total_listed, word_there}

-- one input stands where its words were passed
one_stands : (bytes : List ℕ) (x : Input) (kind : ℕ) (s : Stored)
    → SegmentSpells (extent_bytes bytes x.extent) s.documents kind
    → AreListsOf (source_of x.lists) kind s.documents s.dead → Holds bytes x → IsRead x
    → head_of x.stands x.lists ≡ slice_get (terms_of s.documents) (passed_in x)
one_stands bytes x kind s spells are holds read = by x.stands refl
  where
    by : (b : Bool) → x.stands ≡ b → head_of x.stands x.lists ≡ slice_get (terms_of s.documents) (passed_in x)
    by true e =
        let n : ℕ = read_of x.lists - 1 in
        let one : read_of x.lists ≡ suc n = omega (arith, x.counted.some e) in
        rw e (sym (word_there (extent_bytes bytes x.extent) x.lists kind s.documents s.dead n spells are holds.words one))
    by false e =
        let done : total_of (source_of x.lists) ≤ passed_in x = read e in
        let past : length (terms_of s.documents) ≤ passed_in x =
        omega (arith, done, total_listed (source_of x.lists) kind s.documents s.dead are) in
        ap (λ (b : Bool). head_of b x.lists) e ∙ sym (slice_get_past (terms_of s.documents) (passed_in x) past)

pub stand_at : (bytes : List ℕ) (given : List MergeInput) (is : List Input) (stored : List Stored)
    → HaveExtentsOf given is → SpellsInputs bytes given stored → AreListed given (lists_of is) stored
    → All (Holds bytes) is → All IsRead is → StandAt (heads_of is) (passed_of is) stored
stand_at bytes [] [] [] extents spells are holds read = record { long = refl; heads = λ i lt. absurd (omega (arith, lt)) }
stand_at bytes [] [] (s ∷ stored) extents spells are holds read = absurd are
stand_at bytes [] (x ∷ is) stored extents spells are holds read = absurd are
stand_at bytes (m ∷ given) [] stored extents spells are holds read = absurd are
stand_at bytes (m ∷ given) (x ∷ is) [] extents spells are holds read = absurd are
stand_at bytes (m ∷ given) (x ∷ is) (s ∷ stored) extents spells are holds read =
    let first : m.extent ≡ x.extent = cc in
    let rest : HaveExtentsOf given is = cc in
    let segment = subst (λ (e : Extent). SegmentSpells (extent_bytes bytes e) s.documents m.kind) first
    spells.0.segment in
    let one = one_stands bytes x m.kind s segment are.0 (All-head (Holds bytes) x is holds)
    (All-head IsRead x is read) in
    let more = stand_at bytes given is stored rest spells.1 are.1 (All-tail (Holds bytes) x is holds)
    (All-tail IsRead x is read) in
    record { long = ap suc more.long; heads = both one more.heads }
  where
    both : head_of x.stands x.lists ≡ slice_get (terms_of s.documents) (passed_in x)
        → ((i : ℕ) → i < length (heads_of is) → head_at (heads_of is) i
        ≡ slice_get (words_at stored i) (slice_index (passed_of is) i))
        → (i : ℕ) → i < length (heads_of (x ∷ is)) → head_at (heads_of (x ∷ is)) i
        ≡ slice_get (words_at (s ∷ stored) i) (slice_index (passed_of (x ∷ is)) i)
    both one more zero lt = one
    both one more (suc i) lt = more i (omega (arith, lt))

-- ---- how many words are to come

one_more : (x : Input) (v : List ℕ) → head_of x.stands x.lists ≡ Some v → passed_in x < total_of (source_of x.lists)
one_more x v got = by x.stands refl
  where
    by : (b : Bool) → x.stands ≡ b → passed_in x < total_of (source_of x.lists)
    by true e = rw e (omega (arith, x.counted.some e, read_most x.lists))
    by false e = absurd (let k : None ≡ Some v = ap (λ (b : Bool). head_of b x.lists) (sym e) ∙ got in cc)

-- an input that stands at a word has not passed all
pub have_more : (is : List Input) → HaveMore (heads_of is) (lists_of is) (passed_of is)
have_more [] i v lt got = absurd (omega (arith, lt))
have_more (x ∷ is) zero v lt got = one_more x v got
have_more (x ∷ is) (suc i) v lt got = have_more is i v (omega (arith, lt)) got

one_done : (x : Input) → IsRead x → head_of x.stands x.lists ≡ None → total_of (source_of x.lists) ≤ passed_in x
one_done x read none = by x.stands refl
  where
    by : (b : Bool) → x.stands ≡ b → total_of (source_of x.lists) ≤ passed_in x
    by true e = absurd (let k : Some (word_of x.lists) ≡ None = ap (λ (b : Bool). head_of b x.lists) (sym e) ∙ none in cc)
    by false e = read e

-- one that stands at none has
all_done : (is : List Input) → All IsRead is → (i : ℕ) → i < length (heads_of is) → head_at (heads_of is) i ≡ None
    → total_at (lists_of is) i ≤ slice_index (passed_of is) i
all_done [] read i lt none = absurd (omega (arith, lt))
all_done (x ∷ is) read zero lt none = one_done x (All-head IsRead x is read) none
all_done (x ∷ is) read (suc i) lt none = all_done is (All-tail IsRead x is read) i (omega (arith, lt)) none

none_left : (hs : List (Option (List ℕ))) (ls : List ListSource) (counts : List ℕ) (n : ℕ) → n ≤ length hs
    → ((i : ℕ) → i < length hs → head_at hs i ≡ None → total_at ls i ≤ slice_index counts i)
    → least_of hs n ≡ None → to_come ls counts n ≡ 0
none_left hs ls counts zero le done none = refl
none_left hs ls counts (suc n) le done none =
    let none_at = λ (i : ℕ) (lt : i < suc n). none_least hs (suc n) i none lt in
    let before = none_left hs ls counts n (omega (arith, le)) done (least_before hs n none) in
    omega (arith, before, done n (omega (arith, le)) (none_at n (omega arith)))
  where
    least_before : (gs : List (Option (List ℕ))) (m : ℕ) → least_of gs (suc m) ≡ None → least_of gs m ≡ None
    least_before gs m e = (lesser_none (least_of gs m) (head_at gs m) e).0

-- where no input stands at a word, none is to come
pub none_to_come : (is : List Input) → All IsRead is → least_of (heads_of is) (length (heads_of is)) ≡ None
    → to_come (lists_of is) (passed_of is) (length (lists_of is)) ≡ 0
none_to_come is read none =
    let long : length (heads_of is) ≡ length (lists_of is) =
    omega (
      arith,
      length-map is (λ (i : Input). head_of i.stands i.lists),
      length-map is (λ (i : Input). source_of i.lists),
    ) in
    subst (λ (n : ℕ). to_come (lists_of is) (passed_of is) n ≡ 0) long
    (none_left (heads_of is) (lists_of is) (passed_of is) (length (heads_of is)) (omega arith) (all_done is read) none)

-- an input whose key says that no word is to be read has come to its word, or passed all
pub is_read : (x : Input) → 0 < x.key → IsRead x
is_read x some = λ none.
    let all = x.counted.all none some in
    omega (arith, all, ap (λ (b : Bool). passed_by b (read_of x.lists)) none)

-- no more words were passed than it has come to
pub passed_most : (x : Input) → passed_in x ≤ read_of x.lists
passed_most x = by x.stands
  where
    by : (b : Bool) → passed_by b (read_of x.lists) ≤ read_of x.lists
    by true = omega arith
    by false = omega arith
