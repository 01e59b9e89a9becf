-- Behind the last word of a walk all lists of its inputs are whole, and so are those that their bytes
-- name.
use Rattle.std.proofs.Common.{◌≡◌, ◌∙◌, ◌+◌, ◌≤◌, ◌<◌, inl, inr, ℕ, zero, suc, List, [], ◌∷◌, ◌++◌, length, drop, get_or, slice_index, Ok, sym, ap, subst, arith}
use Rattle.std.specs.Prelude.{All}
use Rattle.std.specs.List.{AllByRecursion}
use Rattle.std.proofs.lemmas.Bool.{cases_lt, le-ltb}
use Rattle.std.proofs.lemmas.List.{get_or_default, length-drop, length-map, length-take-le}
use Rattle.std.proofs.lemmas.List.Elements.{All-cons, All-head, All-nil, All-tail}
use Rattle.pk_dict.specs.declared.entry.DictPlace.{DictPlace}
use Rattle.pk_dict.specs.Dictionary.{Item, group_count}
use Rattle.pk_dict.specs.Place.{bytes_at}
use Rattle.pk_dict.specs.Said.{first_words, nth_word, words_of}
use Rattle.pk_dict.proofs.SaidLaw.{are_said}
use Rattle.pk_disk.specs.Units.{extent_bytes, start_of}
use Rattle.pk_disk.specs.declared.units.Extent.{Extent}
use Rattle.pk_join.specs.declared.input.MergeInput.{MergeInput}
use Rattle.pk_join.specs.declared.lists.InputLists.{InputLists}
use Rattle.pk_join.specs.declared.lists.InputLists.TheVariants.{Stored, Indexed}
use Rattle.pk_join.specs.declared.walk_input.Input.{Input}
use Rattle.pk_join.specs.Inputs.{LiesInside}
use Rattle.pk_join.specs.Listed.{LieIn, ListSource, Dictionary, Texts, read_of, source_of, total_of}
use Rattle.pk_join.specs.Reading.{HaveRead}
use Rattle.pk_join.specs.Said.{AreSaidIn}
use Rattle.pk_join.specs.WalkInput.{HaveExtentsOf, IsBefore, extents_of, lists_of, passed_in, passed_of}
use Rattle.pk_join.specs.Walking.{to_come, total_at}
use Rattle.pk_join.specs.Whole.{AllAreWhole, IsWhole, ListIsWhole, PassWhole, SourceIsWhole}
use Rattle.pk_join.specs.WholeLists.{HasListAt, behind}
use Rattle.pk_join.proofs.AheadLemmas.{before_zero, hold_start}
use Rattle.pk_join.proofs.ShowLemmas.{passed_most}
use Rattle.pk_join.proofs.StandLemmas.{passed_here, total_here}
use Rattle.pk_join.proofs.WholeLemmas.{source_stays}
use Rattle.pk_merge.specs.Said.{AreAllSaid, NamesWhole}

-- of no input a word is to come
none_ahead : (ls : List ListSource) (counts : List ℕ) (n i : ℕ) → to_come ls counts n ≡ 0 → i < n
    → total_at ls i ≤ slice_index counts i
none_ahead ls counts zero i none lt = absurd (omega (arith, lt))
none_ahead ls counts (suc n) i none lt = elim (cases_lt i n) [
  | inl front ↦ none_ahead ls counts n i (omega (arith, none)) front
  | inr back ↦ (
      let same : n ≡ i = omega (arith, lt, back) in
      subst (λ (k : ℕ). total_at ls k ≤ slice_index counts k) same (omega (arith, none)))
]

-- an input that has come to its last word has said all, and where the list of each is whole it names
-- whole ones
source_whole : (b : List ℕ) (e : Extent) (l : InputLists) → HaveRead (extent_bytes b e) l
    → total_of (source_of l) ≤ read_of l
    → ((n : ℕ) → n < total_of (source_of l) → ListIsWhole b e (source_of l) n) → SourceIsWhole b e (source_of l)
source_whole b e (Stored words postings marks) read all whole =
    let own = bytes_at (extent_bytes b e) words.place in
    let G : ℕ = group_count words.place.terms in
    let last : words.read ≡ words.place.terms = omega (arith, all, words.order) in
    let said = are_said own G words.place.terms
    (λ (i : Item). IsWhole (Unit {0}) b e (behind postings i.entry.place))
    (words.word.items, words.entry, words.at) (ap (nth_word own G) (sym last) ∙ read.said)
    (λ m u lt is. whole m lt u is) in
    record { items = said.items; said = said.said; whole = said.each }
source_whole b e (Indexed words marks) read all whole = tt

pub all_whole : (K : Type 0) (b : List ℕ) (old new : List Input) → All IsBefore old
    → lists_of new ≡ lists_of old → extents_of new ≡ extents_of old
    → to_come (lists_of new) (passed_of new) (length (lists_of new)) ≡ 0 → PassWhole K b old new
    → All (AllAreWhole K b) old
all_whole K b old new before lists extents none passed i d lt = λ known.
    source_stays b old new i d lists extents (here known)
  where
    x : Input
    x = get_or old i d

    y : Input
    y = get_or new i d

    within : i < length new
    within = omega (
      arith,
      lt,
      ap length lists,
      length-map old (λ (z : Input). source_of z.lists),
      length-map new (λ (z : Input). source_of z.lists),
    )

    at : y ≡ get_or new i y
    at = get_or_default new i d y within

    done : total_of (source_of y.lists) ≤ passed_in y
    done = omega (
      arith,
      none_ahead (lists_of new) (passed_of new) (length (lists_of new)) i none
          (omega (arith, within, length-map new (λ (z : Input). source_of z.lists))),
      passed_here new i y within at,
      total_here new i y within at,
    )

    here : K → SourceIsWhole b y.extent (source_of y.lists)
    here known =
        let holds = passed.hold known (hold_start b old before) in
        source_whole b y.extent y.lists (holds i d within).words (omega (arith, done, passed_most y))
        (λ n inside. passed.lists i n d within (omega (arith, before_zero x (before i d lt)))
        (omega (arith, inside, done)) (known, hold_start b old before))

-- ---- what the bytes of the inputs name

-- one input more
pub said_snoc : (bytes : List ℕ) (is : List MergeInput) (ls : List ListSource) (x : MergeInput)
    (l : ListSource) → AreAllSaid bytes is ls → AreSaidIn (extent_bytes bytes x.extent) x.kind l
    → AreAllSaid bytes (is ++ x ∷ []) (ls ++ l ∷ [])
said_snoc bytes [] [] x l said one = (one, tt)
said_snoc bytes [] (m ∷ ls) x l said one = absurd said
said_snoc bytes (i ∷ is) [] x l said one = absurd said
said_snoc bytes (i ∷ is) (m ∷ ls) x l said one = (said.0, said_snoc bytes is ls x l said.1 one)

each_item : (P Q : Item → Type 0) (items : List Item) → ((i : Item) → P i → Q i) → AllByRecursion P items
    → AllByRecursion Q items
each_item P Q [] then all = tt
each_item P Q (i ∷ items) then all = (then i all.0, each_item P Q items then all.1)

all_words : (content : List ℕ) (place : DictPlace) (items : List Item) → place.at + place.bytes ≤ length content
    → first_words (bytes_at content place) (group_count place.terms) place.terms ≡ Ok items
    → words_of content place ≡ Ok items
unfolding words_of
all_words content place items inside said = rw (le-ltb (length content) (place.at + place.bytes) inside) said

-- those that an input names
names_whole : (K : Type 0) (bytes : List ℕ) (i : MergeInput) (e : Extent) (l : ListSource) → K
    → LiesInside (length bytes) i → i.extent ≡ e → LieIn e.bytes l → AreSaidIn (extent_bytes bytes i.extent) i.kind l
    → (K → SourceIsWhole bytes e l) → NamesWhole bytes i
names_whole K bytes i e (Dictionary place postings deleted) known inside same lies said whole = λ kind.
    let own = extent_bytes bytes i.extent in
    let names = subst (λ (x : Extent). SourceIsWhole bytes x (Dictionary place postings deleted)) (sym same)
    (whole known) in
    let long : length own ≡ i.extent.bytes =
    length-take-le i.extent.bytes (drop (start_of i.extent) bytes)
    (omega (arith, length-drop (start_of i.extent) bytes, inside)) in
    let all = all_words own place names.items
    (omega (arith, lies, long, ap (λ (x : Extent). x.bytes) same)) names.said in
    record {
      items = names.items;
      said = subst (λ (p : DictPlace). words_of own p ≡ Ok names.items) said.1 all;
      within = each_item _ _ names.items
          (λ (x : Item) (w : IsWhole (Unit {0}) bytes i.extent (behind postings x.entry.place)).
          omega (arith, w.within, said.2, long)) names.whole;
      lists = each_item _ _ names.items
          (λ (x : Item) (w : IsWhole (Unit {0}) bytes i.extent (behind postings x.entry.place)).
          subst (λ (m : ℕ). HasListAt own (behind m x.entry.place)) said.2 (w.spelled tt)) names.whole;
    }
names_whole K bytes i e (Texts t deleted) known inside same lies said whole = λ kind. absurd (said kind)

pub all_name_whole : (K : Type 0) (bytes : List ℕ) (is : List MergeInput) (js : List Input) → K
    → All (LiesInside (length bytes)) is → HaveExtentsOf is js → AreAllSaid bytes is (lists_of js)
    → All (AllAreWhole K bytes) js → All (NamesWhole bytes) is
all_name_whole K bytes [] js known inside extents said whole = All-nil (NamesWhole bytes)
all_name_whole K bytes (i ∷ is) [] known inside extents said whole = absurd said
all_name_whole K bytes (i ∷ is) (j ∷ js) known inside extents said whole =
    let first : i.extent ≡ j.extent = cc in
    let rest : HaveExtentsOf is js = cc in
    All-cons (NamesWhole bytes) i is
    (names_whole K bytes i j.extent (source_of j.lists) known (All-head (LiesInside (length bytes)) i is inside) first
    j.lies said.0
    (All-head (AllAreWhole K bytes) j js whole))
    (all_name_whole K bytes is js known (All-tail (LiesInside (length bytes)) i is inside) rest said.1
    (All-tail (AllAreWhole K bytes) j js whole))
