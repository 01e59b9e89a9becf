-- Inputs by their places, and after one of them went on.
use Rattle.std.proofs.Common.{◌≡◌, ◌∙◌, inl, inr, ℕ, zero, suc, ◌+◌, ◌-◌, ◌<◌, ◌≤◌, Bool, true, false, Greater, Ordering, Option, None, List, [], ◌∷◌, ◌++◌, length, map, set, take, Some, get_or, slice_index, refl, sym, ap, subst, arith}
use Rattle.std.specs.Prelude.{All, MatchOption, slice_get}
use Rattle.std.specs.Option.{option_map}
use Rattle.std.specs.Ordering.{match_ordering}
use Rattle.std.proofs.Math.ListN.{get_or-map, length-set}
use Rattle.std.proofs.Math.Seq.{map-set_same}
use Rattle.std.proofs.lemmas.Bool.{cases_lt}
use Rattle.std.proofs.lemmas.List.{get_or_default, length-map, map-set}
use Rattle.pk_disk.specs.declared.units.Extent.{Extent}
use Rattle.pk_join.specs.declared.joined.Joined.{Joined}
use Rattle.pk_join.specs.declared.lists.InputLists.{InputLists}
use Rattle.pk_join.specs.declared.walk_input.Input.{Input}
use Rattle.pk_disk.specs.Units.{extent_bytes}
use Rattle.pk_segment.specs.Spelling.{SegmentSpells}
use Rattle.pk_join.specs.declared.input.MergeInput.{MergeInput}
use Rattle.pk_join.specs.Inputs.{SpellsInputs}
use Rattle.pk_join.specs.Counted.{passed_by}
use Rattle.pk_join.specs.Listed.{AreListsOf, ListSource, head_of, read_of, source_of, total_of, word_of}
use Rattle.pk_join.specs.Keys.{HasKey}
use Rattle.pk_join.specs.Noted.{AreNoted, IsPassed, head_at, is_word, least_of, lesser_of, next_noted, next_passed, noted_of, order_of}
use Rattle.pk_join.specs.declared.keys.Sought.{Sought}
use Rattle.pk_join.proofs.KeyLemmas.{greater_key}
use Rattle.pk_join.specs.WalkInput.{GoNowhere, HaveExtentsOf, Holds, IsRead, StandAs, StandsAs, extents_of, heads_of, keys_of, lists_of, passed_in, passed_of, words_of}
use Rattle.pk_join.specs.Joining.{MayJoin, joined_in}
use Rattle.pk_join.specs.Walking.{AreListed, CanHold, IsAtHeads, stored_at, total_at}
use Rattle.pk_segment.specs.Indexed.{list_with}
use Rattle.pk_state.specs.Committed.{Stored, live_in, live_of}
use Rattle.std.proofs.lemmas.Slice.Eq.{bytes_eq-Decides}
use Rattle.pk_join.proofs.JoinLemmas.{may_next}
use Rattle.pk_join.proofs.JoinNoted.{IsGap}
use Rattle.pk_join.proofs.NoteLemmas.{noted_have}
use Rattle.pk_join.proofs.WordLemmas.{same_word}

pub found_word : (w : List ℕ) (o : Option (List ℕ)) → is_word w o ≡ true → o ≡ Some w
found_word w None is = absurd (let k : false ≡ true = is in cc)
found_word w (Some v) is = ap (λ (u : List ℕ). Some u) ((bytes_eq-Decides v w).0 is)

-- ---- one input by its place

pub passed_here : (is : List Input) (i : ℕ) (x : Input) → i < length is → x ≡ get_or is i x
    → passed_in x ≡ slice_index (passed_of is) i
passed_here [] i x lt at = absurd (omega arith)
passed_here (y ∷ is) zero x lt at = ap (λ (z : Input). passed_in z) at
passed_here (y ∷ is) (suc i) x lt at = passed_here is i x (omega arith) at

pub total_here : (is : List Input) (i : ℕ) (x : Input) → i < length is → x ≡ get_or is i x
    → total_of (source_of x.lists) ≡ total_at (lists_of is) i
total_here [] i x lt at = absurd (omega arith)
total_here (y ∷ is) zero x lt at = ap (λ (z : Input). total_of (source_of z.lists)) at
total_here (y ∷ is) (suc i) x lt at = total_here is i x (omega arith) at

pub head_is : (is : List Input) (i : ℕ) (x : Input) → i < length is → x ≡ get_or is i x
    → head_of x.stands x.lists ≡ head_at (heads_of is) i
head_is [] i x lt at = absurd (omega arith)
head_is (y ∷ is) zero x lt at = ap (λ (z : Input). head_of z.stands z.lists) at
head_is (y ∷ is) (suc i) x lt at = head_is is i x (omega arith) at

-- an input that has a word at its head stands at it
pub stands_there : (b : Bool) (l : InputLists) (w : List ℕ) → head_of b l ≡ Some w → b ≡ true
stands_there true l w got = refl
stands_there false l w got = absurd (let k : None ≡ Some w = got in cc)

pub key_here : (is : List Input) (i : ℕ) (x : Input) → i < length is → x ≡ get_or is i x
    → slice_index (keys_of is) i ≡ x.key
key_here [] i x lt at = absurd (omega arith)
key_here (y ∷ is) zero x lt at = ap (λ (z : Input). z.key) (sym at)
key_here (y ∷ is) (suc i) x lt at = key_here is i x (omega arith) at

-- its key is the word's
key_at_head : (is : List Input) (i : ℕ) → i < length is
    → HasKey (slice_index (keys_of is) i) (head_at (heads_of is) i)
key_at_head [] i lt = absurd (omega arith)
key_at_head (y ∷ is) zero lt = y.has
key_at_head (y ∷ is) (suc i) lt = key_at_head is i (omega arith)

-- and where that is not the key of one whose word is to be read, it stands at a word, or has passed all
pub is_read : (is : List Input) (keys : List ℕ) (i : ℕ) (d : Input) → keys ≡ keys_of is → i < length is
    → 0 < slice_index keys i → IsRead (get_or is i d)
is_read is keys i d same lt some = λ off.
    let x = get_or is i d in
    let key = ap (λ (ks : List ℕ). slice_index ks i) same ∙ key_here is i x lt (get_or_default is i d x lt) in
    omega (arith, x.counted.all off (omega (arith, some, key)), ap (λ (b : Bool). passed_by b (read_of x.lists)) off)

-- the word of one that is noted is the one that it came to
pub word_here : (is : List Input) (i : ℕ) (w : List ℕ) → i < length is → head_at (heads_of is) i ≡ Some w
    → slice_get (words_of is) i ≡ Some w
word_here [] i w lt got = absurd (omega arith)
word_here (y ∷ is) zero w lt got = one y.stands got
  where
    one : (b : Bool) → head_of b y.lists ≡ Some w → Some (word_of y.lists) ≡ Some w
    one true e = e
    one false e = absurd (let k : None ≡ Some w = e in cc)
word_here (y ∷ is) (suc i) w lt got = word_here is i w (omega arith) got

-- ---- heads of greater keys are passed over

stay_least : (v : List ℕ) (b : Option (List ℕ)) → Greater ≡ order_of v b → lesser_of (Some v) b ≡ Some v
stay_least v None g = refl
stay_least v (Some w) g = ap (λ (o : Ordering). match_ordering o (Some w) (Some v) (Some v)) (sym g)

stay_noted : (v : List ℕ) (b : Option (List ℕ)) (ns : List ℕ) (i : ℕ) → Greater ≡ order_of v b
    → next_noted (Some v) b ns i ≡ ns
stay_noted v b ns i g = ap (λ (o : Ordering). match_ordering o (i ∷ []) (ns ++ i ∷ []) ns) (sym g)

pass_greater : (is : List Input) (s : Sought) (from d : ℕ) → from + d ≤ length is
    → least_of (heads_of is) from ≡ Some s.word.now
    → ((k : ℕ) → from ≤ k → k < from + d → s.key < slice_index (keys_of is) k)
    → (least_of (heads_of is) (from + d) ≡ Some s.word.now)
    × (noted_of (heads_of is) (from + d) ≡ noted_of (heads_of is) from)
pass_greater is s from zero fits least far =
    let e : from + zero ≡ from = omega arith in
    (ap (least_of (heads_of is)) e ∙ least, ap (noted_of (heads_of is)) e)
pass_greater is s from (suc d) fits least far =
    let hs = heads_of is in
    let m : ℕ = from + d in
    let e : from + suc d ≡ suc m = omega arith in
    let rec = pass_greater is s from d (omega (arith, fits)) least (λ k a b. far k a (omega (arith, b))) in
    let g = greater_key s.word.now s.key (slice_index (keys_of is) m) (head_at hs m) s.has
    (key_at_head is m (omega (arith, fits))) (far m (omega arith) (omega arith)) in (
      ap (least_of hs) e ∙ ap (λ (o : Option (List ℕ)). lesser_of o (head_at hs m)) rec.0
          ∙ stay_least s.word.now (head_at hs m) g,
      ap (noted_of hs) e
          ∙ ap (λ (o : Option (List ℕ)). next_noted o (head_at hs m) (noted_of hs m) m) rec.0
          ∙ stay_noted s.word.now (head_at hs m) (noted_of hs m) m g ∙ rec.1,
    )

-- what is noted up to a place is so up to the next one whose key is not greater
pub passed_on : (is : List Input) (keys : List ℕ) (least : Option Sought) (from j : ℕ) → keys ≡ keys_of is
    → from ≤ j → j ≤ length is
    → option_map (λ (s : Sought). s.word.now) least ≡ least_of (heads_of is) from
    → MatchOption least (j ≡ from) (λ s. (k : ℕ) → from ≤ k → k < j → s.key < slice_index keys k)
    → (least_of (heads_of is) from ≡ least_of (heads_of is) j)
    × (noted_of (heads_of is) from ≡ noted_of (heads_of is) j)
passed_on is keys None from j same le within has far =
    (ap (least_of (heads_of is)) (sym far), ap (noted_of (heads_of is)) (sym far))
passed_on is keys (Some s) from j same le within has far =
    let e : from + (j - from) ≡ j = omega (arith, le) in
    let r = pass_greater is s from (j - from) (omega (arith, le, within)) (sym has)
    (λ k a b. subst (λ (l : List ℕ). s.key < slice_index l k) same (far k a (omega (arith, b, le)))) in (
      sym has ∙ sym r.0 ∙ ap (least_of (heads_of is)) e,
      sym r.1 ∙ ap (noted_of (heads_of is)) e,
    )

-- ---- what is said of each by a part that stays

pub all_stay : {Y : Type 0} (f : Input → Y) (Q : Y → Type 0) (is js : List Input) → map f js ≡ map f is
    → All (λ (i : Input). Q (f i)) is → All (λ (i : Input). Q (f i)) js
all_stay {Y} f Q is js same all k d lt =
    let long : length js ≡ length is = sym (length-map js f) ∙ ap length same ∙ length-map is f in
    let e : f (get_or is k d) ≡ f (get_or js k d) = sym (get_or-map f is k d)
    ∙ ap (λ (l : List Y). get_or l k (f d)) (sym same) ∙ get_or-map f js k d in
    subst Q e (all k d (omega (arith, lt, long)))

-- ---- one input is another one

pub part_same : {Y : Type 0} (f : Input → Y) (is : List Input) (i : ℕ) (x y : Input) → x ≡ get_or is i x
    → f y ≡ f x → map f (set is i y) ≡ map f is
part_same {Y} f is i x y at same = map-set_same f is i y x (same ∙ ap f at)

pub passed_set : (is : List Input) (i : ℕ) (y : Input) → passed_of (set is i y) ≡ set (passed_of is) i (passed_in y)
passed_set is i y = map-set passed_in is i y

pub heads_set : (is : List Input) (i : ℕ) (y : Input) → heads_of (set is i y)
    ≡ set (heads_of is) i (head_of y.stands y.lists)
heads_set is i y = map-set (λ (z : Input). head_of z.stands z.lists) is i y

pub keys_set : (is : List Input) (keys : List ℕ) (i : ℕ) (y : Input) → keys ≡ keys_of is
    → set keys i y.key ≡ keys_of (set is i y)
keys_set is keys i y same = ap (λ (ks : List ℕ). set ks i y.key) same
    ∙ sym (map-set (λ (z : Input). z.key) is i y)

-- ---- all is the same but for what is read ahead

pub stand_none : (is : List Input) → StandAs is is
stand_none is = record { extents = refl; lists = refl; heads = refl; words = refl; passed = refl; keys = refl }

pub stand_set : (is js : List Input) (i : ℕ) (x y : Input) → x ≡ get_or js i x → StandsAs x y → StandAs is js
    → StandAs is (set js i y)
stand_set is js i x y at one all = record {
  extents = part_same (λ (z : Input). z.extent) js i x y at one.extent ∙ all.extents;
  lists = part_same (λ (z : Input). source_of z.lists) js i x y at (ap source_of one.lists) ∙ all.lists;
  heads = part_same (λ (z : Input). head_of z.stands z.lists) js i x y at head ∙ all.heads;
  words = part_same (λ (z : Input). word_of z.lists) js i x y at (ap word_of one.lists) ∙ all.words;
  passed = part_same passed_in js i x y at count ∙ all.passed;
  keys = part_same (λ (z : Input). z.key) js i x y at one.key ∙ all.keys;
}
  where
    head : head_of y.stands y.lists ≡ head_of x.stands x.lists
    head = ap (λ (b : Bool). head_of b y.lists) one.stands ∙ ap (head_of x.stands) one.lists

    count : passed_in y ≡ passed_in x
    count = ap (λ (b : Bool). passed_by b (read_of y.lists)) one.stands
        ∙ ap (λ (l : InputLists). passed_by x.stands (read_of l)) one.lists

-- ---- no word is passed

pub nowhere_none : (is : List Input) → GoNowhere is is
nowhere_none is = record { extents = refl; lists = refl; passed = refl }

pub nowhere_set : (is js : List Input) (i : ℕ) (x y : Input) → x ≡ get_or js i x → y.extent ≡ x.extent
    → source_of y.lists ≡ source_of x.lists → passed_in y ≡ passed_in x → GoNowhere is js → GoNowhere is (set js i y)
nowhere_set is js i x y at extent source passed all = record {
  extents = part_same (λ (z : Input). z.extent) js i x y at extent ∙ all.extents;
  lists = part_same (λ (z : Input). source_of z.lists) js i x y at source ∙ all.lists;
  passed = part_same passed_in js i x y at passed ∙ all.passed;
}

-- ---- the inputs that are noted

pub noted_within : (is : List Input) (ns : List ℕ) (k : ℕ) → AreNoted (heads_of is) ns
    → k < length ns → slice_index ns k < length is
noted_within is ns k noted lt =
    let hs = heads_of is in
    let have = noted_have hs (length hs) noted.word noted.least in
    let here = have.each k (omega (arith, lt, ap length noted.noted)) in
    omega (
      arith,
      here.0,
      ap (λ (l : List ℕ). slice_index l k) noted.noted,
      length-map is (λ (z : Input). head_of z.stands z.lists),
    )

-- also once some of them went on
abbrev pub AllNotedWithin : List ℕ → List Input → Type 0
AllNotedWithin ns js = (k : ℕ) → k < length ns → slice_index ns k < length js

pub all_within_set : (ns : List ℕ) (js : List Input) (i : ℕ) (y : Input) → AllNotedWithin ns js
    → AllNotedWithin ns (set js i y)
all_within_set ns js i y all k lt = omega (arith, all k lt, length-set js i y)

pub noted_there : (is : List Input) (ns : List ℕ) (k : ℕ) → (noted : AreNoted (heads_of is) ns)
    → k < length ns → head_at (heads_of is) (slice_index ns k) ≡ Some noted.word
noted_there is ns k noted lt =
    let hs = heads_of is in
    let have = noted_have hs (length hs) noted.word noted.least in
    let here = have.each k (omega (arith, lt, ap length noted.noted)) in
    ap (λ (l : List ℕ). head_at hs (slice_index l k)) noted.noted ∙ here.1

pub noted_rise : (is : List Input) (ns : List ℕ) (j k : ℕ) → AreNoted (heads_of is) ns → j < k
    → k < length ns → slice_index ns j < slice_index ns k
noted_rise is ns j k noted lt lt' =
    let hs = heads_of is in
    let have = noted_have hs (length hs) noted.word noted.least in
    omega (
      arith,
      have.rising j k lt (omega (arith, lt', ap length noted.noted)),
      ap (λ (l : List ℕ). slice_index l k) noted.noted,
      ap (λ (l : List ℕ). slice_index l j) noted.noted,
    )

pub noted_all : (is : List Input) (ns : List ℕ) (i : ℕ) → (noted : AreNoted (heads_of is) ns)
    → i < length (heads_of is) → head_at (heads_of is) i ≡ Some noted.word
    → (k : ℕ) × (k < length ns) × (slice_index ns k ≡ i)
noted_all is ns i noted lt got =
    let hs = heads_of is in
    let have = noted_have hs (length hs) noted.word noted.least in
    let f = have.all i lt got in
    (f.0, omega (arith, f.1, ap length noted.noted), ap (λ (l : List ℕ). slice_index l f.0) noted.noted ∙ f.2)

-- an input that is noted, while those before it may have gone on
pub noted_here : (is js : List Input) (ns : List ℕ) (k : ℕ) (x : Input)
    → (noted : AreNoted (heads_of is) ns) → k < length ns → slice_index ns k < length js
    → head_at (heads_of js) (slice_index ns k) ≡ head_at (heads_of is) (slice_index ns k)
    → x ≡ get_or js (slice_index ns k) x → head_of x.stands x.lists ≡ Some noted.word
noted_here is js ns k x noted lt inside stay at =
    head_is js (slice_index ns k) x inside at ∙ stay ∙ noted_there is ns k noted lt

-- it stands at it
pub noted_stands : (is js : List Input) (ns : List ℕ) (k : ℕ) (x : Input)
    → (noted : AreNoted (heads_of is) ns) → k < length ns → slice_index ns k < length js
    → head_at (heads_of js) (slice_index ns k) ≡ head_at (heads_of is) (slice_index ns k)
    → x ≡ get_or js (slice_index ns k) x → x.stands ≡ true
noted_stands is js ns k x noted lt inside stay at =
    stands_there x.stands x.lists noted.word (noted_here is js ns k x noted lt inside stay at)

-- ---- the inputs that are noted go on

pub passed_all : (is js : List Input) (ns : List ℕ) (w : List ℕ) → AreNoted (heads_of is) ns
    → least_of (heads_of is) (length (heads_of is)) ≡ Some w
    → ((j : ℕ) → j < length ns → slice_index (passed_of js) (slice_index ns j) ≡ slice_index (passed_of is)
    (slice_index ns j) + 1)
    → ((i : ℕ) → ((j : ℕ) → j < length ns → slice_index ns j ≡ i → ⊥)
    → slice_index (passed_of js) i ≡ slice_index (passed_of is) i)
    → IsPassed (heads_of is) w (passed_of is) (passed_of js)
passed_all is js ns w noted least on others i lt = by (is_word w (head_at hs i)) refl
  where
    hs : List (Option (List ℕ))
    hs = heads_of is

    same : noted.word ≡ w
    same = let e : Some noted.word ≡ Some w = sym noted.least ∙ least in cc

    by : (b : Bool) → is_word w (head_at hs i) ≡ b → slice_index (passed_of js) i ≡ next_passed hs w (passed_of is)
        i
    by true e =
        let there = found_word w (head_at hs i) e in
        let f = noted_all is ns i noted lt (there ∙ ap (λ (v : List ℕ). Some v) (sym same)) in
        subst (λ (k : ℕ). slice_index (passed_of js) k ≡ slice_index (passed_of is) k + 1) f.2 (on f.0 f.1) ∙ rw e refl
    by false e =
        others i (λ j less at.
        let there = noted_there is ns j noted less in
        let here : head_at hs i ≡ Some w = subst (λ (k : ℕ). head_at hs k ≡ Some noted.word) at
        there ∙ ap (λ (v : List ℕ). Some v) same in
        let k : true ≡ false = sym (ap (is_word w) here ∙ same_word w) ∙ e in
        cc)
        ∙ rw e refl

-- an input between those that are noted leaves nothing
pub none_between : (is : List Input) (ns : List ℕ) (stored : List Stored) (w : List ℕ) (k from b : ℕ)
    → AreNoted (heads_of is) ns → least_of (heads_of is) (length (heads_of is))
    ≡ Some w
    → IsAtHeads (heads_of is) w stored → IsGap (length (heads_of is)) ns k b
    → ((j : ℕ) → j < k → slice_index ns j < from) → (i : ℕ) → from ≤ i → i < b
    → list_with w (live_of (stored_at stored i)) ≡ []
none_between is ns stored w k from b noted least absent gap before i le lt =
    by (is_word w (head_at hs i)) refl
  where
    hs : List (Option (List ℕ))
    hs = heads_of is

    same : noted.word ≡ w
    same = let e : Some noted.word ≡ Some w = sym noted.least ∙ least in cc

    inside : i < length hs
    inside = omega (arith, lt, gap.within)

    by : (b : Bool) → is_word w (head_at hs i) ≡ b → list_with w (live_of (stored_at stored i)) ≡ []
    by true e =
        let there = found_word w (head_at hs i) e in
        let f = noted_all is ns i noted inside (there ∙ ap (λ (v : List ℕ). Some v) (sym same)) in
        elim (cases_lt f.0 k) [
          | inl less ↦ absurd (omega (arith, before f.0 less, f.2, le))
          | inr more ↦ absurd (omega (arith, gap.behind f.0 more f.1, f.2, lt))
        ]
    by false e = absent i inside e

-- Before the kth of those noted lie the ones before it, and it has the word.
pub record IsNoted (is : List Input) (ns : List ℕ) (k : ℕ) (w v : List ℕ) : Type 0 where
  pub gap : IsGap (length (heads_of is)) ns k (slice_index ns k)
  pub within : slice_index ns k < length (heads_of is)
  pub word : Some v ≡ Some w
  pub below : (j : ℕ) → j < k + 1 → slice_index ns j < slice_index ns k + 1

pub noted_gap : (is : List Input) (ns : List ℕ) (k : ℕ) (w : List ℕ)
    → (noted : AreNoted (heads_of is) ns) → k < length ns
    → least_of (heads_of is) (length (heads_of is)) ≡ Some w → IsNoted is ns k w noted.word
noted_gap is ns k w noted lt least =
    let inside : slice_index ns k < length (heads_of is) =
    omega (arith, noted_within is ns k noted lt, length-map is (λ (z : Input). head_of z.stands z.lists)) in
    record {
      gap = record {
        within = omega (arith, inside);
        before = λ j less. noted_rise is ns j k noted less lt;
        behind = λ j le lt'. elim (cases_lt k j) [
          | inl less ↦ omega (arith, noted_rise is ns k j noted less lt')
          | inr more ↦ (let e : k ≡ j = omega (arith, le, more) in omega (arith, ap (slice_index ns) e))
        ];
      };
      within = inside;
      word = sym noted.least ∙ least;
      below = λ j less. elim (cases_lt j k) [
        | inl front ↦ omega (arith, noted_rise is ns j k noted front lt)
        | inr back ↦ (let e : j ≡ k = omega (arith, less, back) in omega (arith, ap (slice_index ns) e))
      ];
    }

-- What the ith input is of.
pub record Given (bytes : List ℕ) (x : Input) (stored : List Stored) (i : ℕ) : Type 0 where
  pub kind : ℕ
  pub within : i < length stored
  pub segment : SegmentSpells (extent_bytes bytes x.extent) (stored_at stored i).documents kind
  pub lists : AreListsOf (source_of x.lists) kind (stored_at stored i).documents (stored_at stored i).dead

given_one : (bytes : List ℕ) (given : List MergeInput) (js : List Input) (stored : List Stored) (i : ℕ)
    (d : Input) → SpellsInputs bytes given stored → AreListed given (lists_of js) stored
    → HaveExtentsOf given js
    → i < length js → Given bytes (get_or js i d) stored i
given_one bytes given [] stored i d spells are extents lt = absurd (omega arith)
given_one bytes [] (x ∷ js) stored i d spells are extents lt = absurd (cc)
given_one bytes (m ∷ given) (x ∷ js) [] i d spells are extents lt = absurd spells
given_one bytes (m ∷ given) (x ∷ js) (s ∷ stored) zero d spells are extents lt =
    let first : m.extent ≡ x.extent = cc in
    record {
      kind = m.kind;
      within = omega arith;
      segment = subst (λ (e : Extent). SegmentSpells (extent_bytes bytes e) s.documents m.kind) first
          spells.0.segment;
      lists = are.0;
    }
given_one bytes (m ∷ given) (x ∷ js) (s ∷ stored) (suc i) d spells are extents lt =
    let rest : HaveExtentsOf given js = cc in
    let more = given_one bytes given js stored i d spells.1 are.1 rest (omega arith) in
    record {
      kind = more.kind;
      within = omega (arith, more.within);
      segment = more.segment;
      lists =
          more.lists;
    }

pub given_at : (bytes : List ℕ) (given : List MergeInput) (is js : List Input) (stored : List Stored) (i : ℕ)
    (d : Input) → SpellsInputs bytes given stored → AreListed given (lists_of is) stored
    → HaveExtentsOf given is
    → lists_of js ≡ lists_of is → extents_of js ≡ extents_of is → i < length js
    → Given bytes (get_or js i d) stored i
given_at bytes given is js stored i d spells are extents lists same lt =
    given_one bytes given js stored i d spells (subst (λ (ls : List ListSource). AreListed given ls stored)
    (sym lists) are) (extents ∙ sym same) lt

-- what is said of each list that may be joined is said of that of the next input that is noted
pub joins_next : (Q : Stored → List ℕ → Type 0) (bytes now : List ℕ) (given : List MergeInput)
    (is js : List Input) (stored : List Stored) (ns : List ℕ) (k : ℕ) (w : List ℕ) (x : Input) (j : Joined)
    → (noted : AreNoted (heads_of is) ns) → k < length ns
    → least_of (heads_of is) (length (heads_of is)) ≡ Some w
    → HaveExtentsOf given is → SpellsInputs bytes given stored → AreListed given (lists_of is) stored
    → CanHold stored j.room → now ≡ bytes → StandAs is js → x ≡ get_or js (slice_index ns k) x → Holds now x
    → joined_in j ≡ list_with w (live_in (take (slice_index ns k) stored))
    → ((s : Stored) (kind : ℕ) (v : List ℕ) → Holds now x
    → SegmentSpells (extent_bytes now x.extent) s.documents kind → AreListsOf (source_of x.lists) kind s.documents s.dead
    → head_of x.stands x.lists ≡ Some v → MayJoin j (list_with v (live_of s)) → Q s v)
    → Q (stored_at stored (slice_index ns k)) w
joins_next Q bytes now given is js stored ns k w x j noted lt least extents spells are can same stand at
    holds so_far each =
    let i = slice_index ns k in
    let one = noted_gap is ns k w noted lt least in
    let inside : i < length js =
    omega (arith, one.within, ap length stand.heads, length-map js (λ (z : Input). head_of z.stands z.lists)) in
    let here = subst (λ (b : List ℕ). SpellsInputs b given stored) (sym same) spells in
    let of_input = subst (λ (z : Input). Given now z stored i) (sym at)
    (given_at now given is js stored i x here are extents stand.lists stand.extents inside) in
    let got = noted_here is js ns k x noted lt inside
    (ap (λ (hs : List (Option (List ℕ))). head_at hs i) stand.heads) at ∙ one.word in
    each (stored_at stored i) of_input.kind w holds of_input.segment of_input.lists got
    (may_next j w stored i can of_input.within so_far)
