-- Lists that are whole, as a walk goes on.
use Rattle.std.proofs.Common.{◌≡◌, ◌∙◌, ◌+◌, ◌-◌, ◌≤◌, ◌<◌, inl, inr, ℕ, suc, Bool, true, false, cond, List, length, map, get_or, slice_index, Option, Ok, Err, refl, sym, ap, subst, arith}
use Rattle.std.specs.Prelude.{All, OnOk, Result}
use Rattle.std.proofs.Math.ListN.{get_or-map}
use Rattle.std.proofs.lemmas.Bool.{cases_lt}
use Rattle.std.proofs.lemmas.List.{get_or_default, length-map}
use Rattle.pk_dict.specs.declared.cursor.TermCursor.{TermCursor}
use Rattle.pk_dict.specs.declared.entry.Entry.{Entry}
use Rattle.pk_dict.specs.Dictionary.{group_count}
use Rattle.pk_dict.specs.Place.{bytes_at}
use Rattle.pk_dict.specs.Said.{IsSaid, nth_word}
use Rattle.pk_disk.specs.Units.{extent_bytes}
use Rattle.pk_disk.specs.declared.units.Extent.{Extent}
use Rattle.pk_posting.specs.declared.fields.ListPlace.{ListPlace}
use Rattle.pk_posting.specs.declared.source.SourceFault.{SourceFault}
use Rattle.pk_segment.specs.Ahead.{HoldsOf}
use Rattle.pk_join.specs.declared.lists.InputLists.{InputLists}
use Rattle.pk_join.specs.declared.lists.InputLists.TheVariants.{Stored, Indexed}
use Rattle.pk_join.specs.declared.marks.Marks.{Marks}
use Rattle.pk_join.specs.declared.text_cursor.TextCursor.{TextCursor}
use Rattle.pk_join.specs.declared.walk.Walk.{Walk}
use Rattle.pk_join.specs.declared.walk_input.Input.{Input}
use Rattle.pk_join.specs.Counted.{passed_by}
use Rattle.pk_join.specs.Listed.{ListSource, Dictionary, Texts, head_of, read_of, source_of}
use Rattle.pk_join.specs.Noted.{AreNoted, IsPassed, head_at, is_word}
use Rattle.pk_join.specs.Reading.{HaveRead}
use Rattle.pk_join.specs.Walk.{IsSameWalk}
use Rattle.pk_join.specs.WalkInput.{GoNowhere, Holds, StandAs, extents_of, heads_of, lists_of, passed_in, passed_of}
use Rattle.pk_join.specs.Whole.{HeadIsWhole, IsWhole, ListIsWhole, NotedAreWhole, PassWhole, SourceIsWhole, WalksWhole, WordIsWhole}
use Rattle.pk_join.specs.WholeLists.{HasListAt, behind}
use Rattle.pk_join.proofs.AheadLemmas.{holds_same}
use Rattle.pk_join.proofs.StandLemmas.{all_stay, found_word, noted_all, passed_here}

-- a list is whole where as much is known, and the extent has the same bytes
whole_then : (K L : Type 0) (b c : List ℕ) (e : Extent) (p : ListPlace) → (L → K)
    → extent_bytes c e ≡ extent_bytes b e → IsWhole K b e p → IsWhole L c e p
whole_then K L b c e p know same whole = record {
  within = whole.within;
  spelled = λ l. subst (λ (own : List ℕ). HasListAt own p) (sym same) (whole.spelled (know l));
}

-- so is the one that a dictionary says there
list_same : (b c : List ℕ) (e : Extent) (l : ListSource) (n : ℕ) → extent_bytes c e ≡ extent_bytes b e
    → ListIsWhole b e l n → ListIsWhole c e l n
list_same b c e (Dictionary place postings deleted) n same whole = λ t said.
    whole_then (Unit {0}) (Unit {0}) b c e (behind postings t.1.place) (λ u. u) same
    (whole t (subst (λ (own : List ℕ). nth_word (bytes_at own place) (group_count place.terms) (suc n) ≡ Ok t) same
    said))
list_same b c e (Texts t deleted) n same whole = tt

pub list_then : (K L : Type 0) (b c : List ℕ) (e : Extent) (l : ListSource) (n : ℕ) → (L → K)
    → (L → extent_bytes c e ≡ extent_bytes b e) → (K → ListIsWhole b e l n) → L → ListIsWhole c e l n
list_then K L b c e l n know same whole = λ k. list_same b c e l n (same k) (whole (know k))

-- ---- the list that was joined

abbrev told : List ℕ → Entry → ℕ → Result (List ℕ × Entry × ℕ) SourceFault
told word entry at = Ok (word, entry, at)

same_entry : (t : List ℕ × Entry × ℕ) (word : List ℕ) (entry : Entry) (at : ℕ) → told t.0 t.1 t.2 ≡ told word entry at
    → entry ≡ t.1
same_entry t word entry at e = cc

-- it is that of the word which the bytes say
said_whole : (K H : Type 0) (b : List ℕ) (e : Extent) (words : TermCursor) (postings n : ℕ)
    → IsSaid (bytes_at (extent_bytes b e) words.place) words → suc n ≡ words.read → K × H
    → IsWhole (K × H) b e (behind postings words.entry.place) → (t : List ℕ × Entry × ℕ)
    → nth_word (bytes_at (extent_bytes b e) words.place) (group_count words.place.terms) (suc n) ≡ Ok t
    → IsWhole (Unit {0}) b e (behind postings t.1.place)
said_whole K H b e words postings n is read known whole t said =
    let own = bytes_at (extent_bytes b e) words.place in
    let here = ap (nth_word own (group_count words.place.terms)) read ∙ is.said in
    let entry = same_entry t words.word.items words.entry words.at (sym said ∙ here) in
    subst (λ (x : Entry). IsWhole (Unit {0}) b e (behind postings x.place)) entry
    (whole_then (K × H) (Unit {0}) b b e (behind postings words.entry.place) (λ u. known) refl whole)

head_said : (K : Type 0) (b : List ℕ) (i : Input) (l : InputLists) (words : TermCursor) (postings : ℕ) (marks : Marks)
    → i.lists ≡ l → l ≡ Stored words postings marks → i.stands ≡ true
    → IsWhole (K × HoldsOf (extent_bytes b i.extent) i.ahead) b i.extent (behind postings words.entry.place)
    → HeadIsWhole K b i
head_said K b i l words postings marks at is stands whole = λ known.
    let lists = at ∙ is in
    let some : 0 < read_of i.lists = i.counted.some stands in
    let read : read_of i.lists ≡ words.read = ap read_of lists in
    let count : passed_in i ≡ read_of i.lists - 1 = ap (λ (s : Bool). passed_by s (read_of i.lists)) stands in
    let said = subst (HaveRead (extent_bytes b i.extent)) lists known.1.words in
    subst (λ (m : InputLists). ListIsWhole b i.extent (source_of m) (passed_in i)) (sym lists)
    (said_whole K (HoldsOf (extent_bytes b i.extent) i.ahead) b i.extent words postings (passed_in i) said
    (omega (arith, some, read, count)) (known.0, known.1.ahead) whole)

pub stored_whole : {T E : Type 0} (r : Result T E) (K : Type 0) (b : List ℕ) (i : Input) (words : TermCursor)
    (postings : ℕ) (marks : Marks) → i.lists ≡ Stored words postings marks → i.stands ≡ true
    → OnOk r (IsWhole (K × HoldsOf (extent_bytes b i.extent) i.ahead) b i.extent (behind postings words.entry.place))
    → OnOk r (HeadIsWhole K b i)
stored_whole (Err f) K b i words postings marks is stands whole = tt
stored_whole (Ok v) K b i words postings marks is stands whole =
    head_said K b i i.lists words postings marks refl is stands whole

-- lists of texts are in memory
pub indexed_whole : {T E : Type 0} (r : Result T E) (K : Type 0) (b : List ℕ) (i : Input) (words : TextCursor)
    (marks : Marks) → i.lists ≡ Indexed words marks → OnOk r (HeadIsWhole K b i)
indexed_whole (Err f) K b i words marks is = tt
indexed_whole (Ok v) K b i words marks is = λ known.
    subst (λ (m : InputLists). ListIsWhole b i.extent (source_of m) (passed_in i)) (sym is) tt

-- ---- what is said of an input by parts that stay

part_stays : {Y : Type 0} (f : Input → Y) (is js : List Input) (i : ℕ) (d : Input) → map f js ≡ map f is
    → f (get_or js i d) ≡ f (get_or is i d)
part_stays {Y} f is js i d same = sym (get_or-map f js i d) ∙ ap (λ (l : List Y). get_or l i (f d)) same
    ∙ get_or-map f is i d

pub list_stays : (K : Type 0) (b : List ℕ) (is js : List Input) (i n : ℕ) (d : Input)
    → lists_of js ≡ lists_of is → extents_of js ≡ extents_of is
    → WordIsWhole K b (get_or js i d) n → WordIsWhole K b (get_or is i d) n
list_stays K b is js i n d lists extents whole =
    let x = get_or is i d in
    let y = get_or js i d in
    λ k. subst (λ (l : ListSource). ListIsWhole b x.extent l n)
    (part_stays (λ (z : Input). source_of z.lists) is js i d lists)
    (subst (λ (e : Extent). ListIsWhole b e (source_of y.lists) n)
    (part_stays (λ (z : Input). z.extent) is js i d extents) (whole k))

pub source_stays : (b : List ℕ) (is js : List Input) (i : ℕ) (d : Input) → lists_of js ≡ lists_of is
    → extents_of js ≡ extents_of is
    → SourceIsWhole b (get_or js i d).extent (source_of (get_or js i d).lists)
    → SourceIsWhole b (get_or is i d).extent (source_of (get_or is i d).lists)
source_stays b is js i d lists extents whole =
    let x = get_or is i d in
    let y = get_or js i d in
    subst (λ (l : ListSource). SourceIsWhole b x.extent l)
    (part_stays (λ (z : Input). source_of z.lists) is js i d lists)
    (subst (λ (e : Extent). SourceIsWhole b e (source_of y.lists))
    (part_stays (λ (z : Input). z.extent) is js i d extents) whole)

-- at the head of an input that stands as it did
pub head_whole : (K : Type 0) (b c : List ℕ) (is js : List Input) (i : ℕ) (d d' : Input) → StandAs is js
    → i < length js → (K → c ≡ b) → (K → All (Holds b) is → All (Holds c) js)
    → HeadIsWhole K c (get_or js i d')
    → WordIsWhole (K × All (Holds b) is) b (get_or is i d) (passed_in (get_or is i d))
head_whole K b c is js i d d' stand lt same hold whole =
    let y = get_or js i d' in
    let M = K × All (Holds b) is in
    let here = list_stays M b is js i (passed_in y) d' stand.lists stand.extents
    (list_then (K × Holds c y) M c b y.extent (source_of y.lists) (passed_in y) (λ k. (k.0, hold k.0 k.1 i d' lt))
    (λ k. ap (λ (own : List ℕ). extent_bytes own y.extent) (sym (same k.0))) whole) in
    let long : length js ≡ length is = sym (length-map js passed_in) ∙ ap length stand.passed
    ∙ length-map is passed_in in
    subst (λ (z : Input). WordIsWhole M b z (passed_in z))
    (get_or_default is i d' d (omega (arith, lt, long)))
    (subst (λ (n : ℕ). WordIsWhole M b (get_or is i d') n) (part_stays passed_in is js i d' stand.passed) here)

-- ---- what is passed

-- where inputs have the same bytes, what was read of them stands there
abbrev pub SameIn : List ℕ → List ℕ → Input → Type 0
SameIn b c i = extent_bytes c i.extent ≡ extent_bytes b i.extent

hold_then : (b c : List ℕ) (is : List Input) → All (SameIn b c) is → All (Holds b) is → All (Holds c) is
hold_then b c is same hold k d lt = holds_same b c (get_or is k d) (same k d lt) (hold k d lt)

pub pass_none : (K : Type 0) (b : List ℕ) (is : List Input) → PassWhole K b is is
pass_none K b is = record {
  lists = λ i n d lt from to. absurd (omega (arith, from, to));
  hold = λ k hold. hold;
}

-- two walks, the second over a disk where the inputs have the same bytes
pub pass_then : (K : Type 0) (b c : List ℕ) (is js ks : List Input) → lists_of ks ≡ lists_of js
    → extents_of ks ≡ extents_of js → (K → All (SameIn b c) js) → PassWhole K b is js → PassWhole K c js ks
    → PassWhole K b is ks
pass_then K b c is js ks lists extents same one two = record {
  lists = λ i n d lt from to.
      let M = K × All (Holds b) is in
      let y = get_or js i d in
      let lt' : i < length js = omega (
        arith,
        lt,
        ap length lists,
        length-map js (λ (z : Input). source_of z.lists),
        length-map ks (λ (z : Input). source_of z.lists),
      ) in
      elim (cases_lt n (passed_in y)) [
        | inl front ↦ list_stays M b ks js i n d (sym lists) (sym extents) (one.lists i n d lt' from front)
        | inr back ↦ list_stays M b ks js i n d (sym lists) (sym extents)
            (list_then (K × All (Holds c) js) M c b y.extent (source_of y.lists) n
            (λ k. (k.0, hold_then b c js (same k.0) (one.hold k.0 k.1)))
            (λ k. sym (same k.0 i d lt'))
            (list_stays (K × All (Holds c) js) c js ks i n d lists extents (two.lists i n d lt back to)))
      ];
  hold = λ k hold. hold_then c b ks
      (all_stay (λ (z : Input). z.extent) (λ (e : Extent). extent_bytes b e ≡ extent_bytes c e) js ks extents
      (λ i d lt. sym (same k i d lt)))
      (two.hold k (hold_then b c js (same k) (one.hold k hold)));
}

-- where less is known
pub pass_known : (K L : Type 0) (b : List ℕ) (is js : List Input) → (L → K) → PassWhole K b is js
    → PassWhole L b is js
pass_known K L b is js know whole = record {
  lists = λ i n d lt from to.
      let y = get_or js i d in
      list_then (K × All (Holds b) is) (L × All (Holds b) is) b b y.extent (source_of y.lists) n
      (λ l. (know l.0, l.1)) (λ l. refl) (whole.lists i n d lt from to);
  hold = λ l. whole.hold (know l);
}

-- on a disk of the same bytes
pub same_in : (b c : List ℕ) (is : List Input) → c ≡ b → All (SameIn b c) is
same_in b c is same k d lt = ap (λ (own : List ℕ). extent_bytes own (get_or is k d).extent) same

pub walks_then : (K : Type 0) (b c : List ℕ) (old mid new : Walk) → IsSameWalk mid new → (K → c ≡ b)
    → WalksWhole K b old mid → WalksWhole K c mid new → WalksWhole K b old new
walks_then K b c old mid new is same one two =
    pass_then K b c old.inputs.items mid.inputs.items new.inputs.items is.lists is.extents
    (λ k. same_in b c mid.inputs.items (same k)) one two

-- where no word was passed, none has a list that is not whole
pub pass_nowhere : (K : Type 0) (b : List ℕ) (is js : List Input) → GoNowhere is js
    → (K → All (Holds b) is → All (Holds b) js) → PassWhole K b is js
pass_nowhere K b is js still hold = record {
  lists = λ i n d lt from to. absurd (omega (arith, from, to, part_stays passed_in is js i d still.passed));
  hold = hold;
}

-- what is passed once those that are noted were
passed_lists : (K : Type 0) (b : List ℕ) (is news : List Input) (ns : List ℕ)
    → (noted : AreNoted (heads_of is) ns) → lists_of news ≡ lists_of is
    → extents_of news ≡ extents_of is → IsPassed (heads_of is) noted.word (passed_of is) (passed_of news)
    → NotedAreWhole K b is ns → (i k : ℕ) (d : Input) → i < length news → passed_in (get_or is i d) ≤ k
    → k < passed_in (get_or news i d)
    → WordIsWhole (K × All (Holds b) is) b (get_or news i d) k
passed_lists K b is news ns noted lists extents passed whole i k d lt from to =
    list_stays (K × All (Holds b) is) b news is i k d (sym lists) (sym extents)
    (by (is_word w (head_at hs i)) refl)
  where
    hs : List (Option (List ℕ))
    hs = heads_of is

    w : List ℕ
    w = noted.word

    x : Input
    x = get_or is i d

    y : Input
    y = get_or news i d

    within : i < length is
    within = omega (
      arith,
      lt,
      ap length lists,
      length-map is (λ (z : Input). source_of z.lists),
      length-map news (λ (z : Input). source_of z.lists),
    )

    inside : i < length hs
    inside = omega (arith, within, length-map is (λ (z : Input). head_of z.stands z.lists))

    was : passed_in x ≡ slice_index (passed_of is) i
    was = passed_here is i x within (get_or_default is i d x within)

    now : passed_in y ≡ cond (is_word w (head_at hs i)) (slice_index (passed_of is) i + 1)
        (slice_index (passed_of is) i)
    now = passed_here news i y lt (get_or_default news i d y lt) ∙ passed i inside

    by : (b' : Bool) → is_word w (head_at hs i) ≡ b'
        → WordIsWhole (K × All (Holds b) is) b x k
    by true e =
        let on : passed_in y ≡ slice_index (passed_of is) i + 1 =
        now ∙ ap (λ (b' : Bool). cond b' (slice_index (passed_of is) i + 1) (slice_index (passed_of is) i)) e in
        let f = noted_all is ns i noted inside (found_word w (head_at hs i) e) in
        let same : passed_in x ≡ k = omega (arith, from, to, on, was) in
        subst (WordIsWhole (K × All (Holds b) is) b x) same
        (subst (λ (m : ℕ). WordIsWhole (K × All (Holds b) is) b (get_or is m d) (passed_in (get_or is m d))) f.2
        (whole f.0 d f.1))
    by false e =
        let on : passed_in y ≡ slice_index (passed_of is) i =
        now ∙ ap (λ (b' : Bool). cond b' (slice_index (passed_of is) i + 1) (slice_index (passed_of is) i)) e in
        absurd (omega (arith, from, to, on, was))

-- one word more, whose list was read between two looks at the disk
pub passed_whole : (K : Type 0) (a b c : List ℕ) (is js mid news : List Input) (ns : List ℕ)
    → (noted : AreNoted (heads_of js) ns) → StandAs js mid → lists_of news ≡ lists_of mid
    → extents_of news ≡ extents_of mid
    → IsPassed (heads_of js) noted.word (passed_of js) (passed_of news) → (K → b ≡ a) → (K → c ≡ b)
    → NotedAreWhole K b js ns → (K → All (Holds b) js → All (Holds c) mid)
    → ((x : List ℕ) → All (Holds x) mid → All (Holds x) news) → PassWhole K a is js → PassWhole K a is news
passed_whole K a b c is js mid news ns noted stand lists extents passed first second whole join pass so_far =
    pass_then K a b is js news (lists ∙ stand.lists) (extents ∙ stand.extents)
    (λ k. same_in a b js (first k)) so_far
    (record {
      lists = passed_lists K b js news ns noted (lists ∙ stand.lists) (extents ∙ stand.extents) passed whole;
      hold = λ k hold. subst (λ (x : List ℕ). All (Holds x) news) (second k) (pass c (join k hold));
    })

-- the heads were read, of a disk where the inputs have the same bytes
pub read_whole : (K : Type 0) (a b c : List ℕ) (is js ks : List Input) → GoNowhere js ks → (K → b ≡ a) → (K → c ≡ b)
    → (K → All (Holds b) js → All (Holds c) ks) → PassWhole K a is js → PassWhole K a is ks
read_whole K a b c is js ks still first second hold so_far =
    pass_then K a b is js ks still.lists still.extents (λ k. same_in a b js (first k)) so_far
    (pass_nowhere K b js ks still (λ k held. subst (λ (x : List ℕ). All (Holds x) ks) (second k) (hold k held)))
