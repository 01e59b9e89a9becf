-- A list that lies in a source, and is asked by seeks.
use Rattle.std.proofs.Common.{◌≡◌, ◌+◌, ◌-◌, ◌<◌, ◌≤◌, ℕ, zero, suc, List, [], ◌∷◌, ◌++◌, length, take, drop, slice_index, Bool, true, false, nat_eq, ◌||◌, refl, sym, ap, subst, ◌∙◌, arith, inl, inr, add-one}
use Rattle.std.proofs.Common.{eqb, map, get_or, get_or-drop, drop-drop, ap₂, Ok, Option, Some, None, MatchOption}
use Rattle.std.proofs.lemmas.List.{map-append}
use Rattle.std.specs.List.Sorted.{IsStrictlyIncreasing}
use Rattle.std.proofs.lemmas.Bool.{cases_lt, eqb-true}
use Rattle.std.specs.Option.{option_eq}
use Rattle.std.proofs.lemmas.Bool.Decides.{nat_tests}
use Rattle.pk_cursor.proofs.SeekingLemmas.{before_is}
use Rattle.pk_cursor.specs.declared.standing.Standing.{Standing}
use Rattle.pk_cursor.specs.Seeking.{IsFirst}
use Rattle.pk_cursor.specs.Standing.{StandsAt}
use Rattle.pk_dict.specs.declared.entry.Entry.{Entry}
use Rattle.pk_model.specs.Collection.{Doc}
use Rattle.pk_posting.specs.Parts.{bytes_at}
use Rattle.pk_posting.specs.Posting.{IsPosting}
use Rattle.pk_posting.specs.Frames.{IsRead, ReadsSource}
use Rattle.pk_posting.specs.declared.source.ByteSource.{Ghosts}
use Rattle.pk_posting.proofs.SourceLemmas.{source_as}
use Rattle.pk_segment.proofs.OnlyReadLemmas.{counts_same}
use Rattle.pk_segment.proofs.ListingLemmas.{list_spelled, list_there, none_has, some_leads}
use Rattle.pk_segment.specs.Indexed.{items_of, list_with}
use Rattle.pk_segment.specs.Listing.{LeadsTo, postings_at}
use Rattle.pk_segment.specs.Spelling.{IndexSpells}
use Rattle.pk_sets.proofs.IntersectionLemmas.{eq_true}
use Rattle.pk_sets.proofs.PartLemmas.{eq_same}
use Rattle.pk_sets.specs.Sets.{has, intersection}
use Rattle.pk_segment.specs.Reading.{CountsReads}
use Rattle.pk_plan.specs.Plans.{Holding, Operation, found, word_at}
use Rattle.pk_dict.specs.Dictionary.{entry_of}
use Rattle.pk_lookup.specs.Matching.{AreEntriesOf, LeadsAs, ListLies}

-- the list that an entry leads to lies behind the texts
pub lies_there : (bytes : List ℕ) (docs : List Doc) (word : List ℕ) (e : Entry) (at : ℕ) → IndexSpells bytes docs → LeadsTo docs word e → at ≡ postings_at docs + e.place.at
    → ListLies bytes (record { at = at; bytes = e.place.bytes }) (list_with word docs)
unfolding bytes_at
lies_there bytes docs word e at is leads same =
    let there = list_there bytes docs word e is leads in
    let n = e.place.bytes in
    record {
      inside = omega (arith, there.0, same);
      spelled = list_spelled bytes docs word (take n (drop at bytes)) is (ap (λ (k : ℕ). take n (drop k bytes)) same ∙ there.1);
    }

-- THE ENTRIES OF WORDS
-- one word more is looked up
taken : (words : List (List ℕ)) (i : ℕ) → i < length words → take (suc i) words ≡ take i words ++ get_or words i [] ∷ []
taken [] i lt = absurd (omega arith)
taken (w ∷ words) zero lt = refl
taken (w ∷ words) (suc i) lt = ap (λ ws. w ∷ ws) (taken words i (omega arith))

pub entries_more : (docs : List Doc) (entries now : List (Option Entry)) (words : List (List ℕ)) (i : ℕ) (entry : Option Entry) → i < length words
    → AreEntriesOf entries (take i words) docs → now ≡ entries ++ entry ∷ [] → entry ≡ entry_of (items_of docs) (get_or words i []) → AreEntriesOf now (take (i + 1) words) docs
entries_more docs entries now words i entry lt are put is =
    put ∙ ap₂ (λ es (e : Option Entry). es ++ e ∷ []) are is
    ∙ sym (map-append (entry_of (items_of docs)) (take i words) (get_or words i [] ∷ []))
    ∙ ap (map (entry_of (items_of docs))) (sym (rw add-one (taken words i lt)))

-- each leads to the list of its word
entry_leads : (docs : List Doc) (words : List (List ℕ)) (place : ℕ) → LeadsAs docs (word_at words place) (get_or (map (entry_of (items_of docs)) words) place None)
entry_leads docs [] place = refl
entry_leads docs (w ∷ words) zero = by (entry_of (items_of docs) w) refl
  where
    by : (o : Option Entry) → o ≡ entry_of (items_of docs) w → LeadsAs docs (Holding w) o
    by None e = none_has docs w None e refl
    by (Some entry) e = (w, refl, some_leads docs w (Some entry) entry e refl)
entry_leads docs (w ∷ words) (suc place) = entry_leads docs words place

pub entries_lead : (entries : List (Option Entry)) (words : List (List ℕ)) (docs : List Doc) (place : ℕ) → AreEntriesOf entries words docs → LeadsAs docs (word_at words place) (get_or entries place None)
entries_lead entries words docs place are = subst (λ (es : List (Option Entry)). LeadsAs docs (word_at words place) (get_or es place None)) (sym are) (entry_leads docs words place)

pub none_held : (docs : List Doc) (held : Operation) (o : Option Entry) → LeadsAs docs held o → o ≡ None → found held docs ≡ []
none_held docs held o leads is = subst (LeadsAs docs held) is leads

pub some_held : (docs : List Doc) (held : Operation) (o : Option Entry) (e : Entry) → LeadsAs docs held o → o ≡ Some e → LeadsAs docs held (Some e)
some_held docs held o e leads is = subst (LeadsAs docs held) is leads

-- a list without a number cuts all away
pub cut_by_none : (xs ys : List ℕ) → ys ≡ [] → intersection xs ys ≡ []
cut_by_none xs ys e = ap (intersection xs) e ∙ none xs
  where
    none : (xs : List ℕ) → intersection xs [] ≡ []
    none [] = refl
    none (x ∷ xs) = none xs

-- SOUGHT ONE BY ONE
or_true : (b : Bool) → (b || true) ≡ true
or_true true = refl
or_true false = refl

has_there : (xs : List ℕ) (m x : ℕ) → m < length xs → slice_index xs m ≡ x → has xs x ≡ true
has_there [] m x lt e = absurd (omega arith)
has_there (y ∷ ys) zero x lt e = ap (λ b. b || has ys x) (eq_same x y (sym e))
has_there (y ∷ ys) (suc m) x lt e = ap (λ b. nat_eq x y || b) (has_there ys m x (omega arith) e) ∙ or_true (nat_eq x y)

has_not : (xs : List ℕ) (x : ℕ) → ((j : ℕ) → j < length xs → slice_index xs j ≡ x → ⊥) → has xs x ≡ false
has_not [] x none = refl
has_not (y ∷ ys) x none = by (nat_eq x y) refl (has_not ys x (λ j lt e. none (suc j) (omega arith) e))
  where
    by : (b : Bool) → nat_eq x y ≡ b → has ys x ≡ false → (b || has ys x) ≡ false
    by true e more = absurd (none 0 (omega arith) (sym (eq_true x y e)))
    by false e more = more

-- the number is in the list just where the cursor met it
pub met : (xs : List ℕ) (x m : ℕ) → IsPosting xs → ((j : ℕ) → j < m → slice_index xs j < x) → m < length xs → x ≡ slice_index xs m → has xs x ≡ true
met xs x m posting below lt e = has_there xs m x lt (sym e)

pub not_met : (xs : List ℕ) (x m : ℕ) → IsPosting xs → ((j : ℕ) → j < m → slice_index xs j < x) → (m < length xs → x ≤ slice_index xs m) → (m < length xs → x ≡ slice_index xs m → ⊥) → has xs x ≡ false
not_met xs x m posting below reaches other = has_not xs x (λ j lt e. elim (cases_lt j m) [
  | inl l ↦ (let low = below j l in omega (arith, low, e))
  | inr g ↦ (
      let inside : m < length xs = omega arith in
      let up = before_is xs m j posting g lt in
      let here = reaches inside in
      other inside (omega (arith, up, here, e)))
])

-- where a search by seeks stands: the numbers so far that are in the list stand in front, and all that the cursor passed is below the numbers that are left
pub record SoughtTo (bytes : List ℕ) (standing : Standing) (xs old now : List ℕ) (kept i : ℕ) : Type 0 where
  pub index : ℕ
  pub stands : StandsAt bytes standing xs index
  pub passed : (j k : ℕ) → j < index → i ≤ k → k < length old → slice_index xs j < slice_index old k
  pub found : take kept now ≡ intersection (take i old) xs

climb : (xs : List ℕ) → IsStrictlyIncreasing xs → (i n : ℕ) → i + n < length xs → slice_index xs i ≤ slice_index xs (i + n)
climb xs h i zero lt = (let e : i ≡ i + 0 = omega arith in omega (arith, ap (slice_index xs) e))
climb xs h i (suc n) lt =
    let e : i + suc n ≡ i + n + 1 = omega arith in
    omega (arith, climb xs h i n (omega arith), h (i + n) (omega arith), ap (slice_index xs) e)

later : (xs : List ℕ) → IsStrictlyIncreasing xs → (i k : ℕ) → i < k → k < length xs → slice_index xs i < slice_index xs k
later xs h i k l lt =
    let e : i + 1 + (k - (i + 1)) ≡ k = omega arith in
    let c = climb xs h (i + 1) (k - (i + 1)) (omega arith) in
    let s = h i (omega arith) in
    omega (arith, c, s, ap (slice_index xs) e)

-- what was passed after one seek more
pub passed_more : (xs old : List ℕ) (x n m i : ℕ) → IsStrictlyIncreasing old → x ≡ slice_index old i → ((j k : ℕ) → j < n → i ≤ k → k < length old → slice_index xs j < slice_index old k)
    → IsFirst xs n x m → (j k : ℕ) → j < m → i + 1 ≤ k → k < length old → slice_index xs j < slice_index old k
passed_more xs old x n m i rising at passed first j k l le lt = elim (cases_lt j n) [
  | inl low ↦ passed j k low (omega arith) lt
  | inr up ↦ (let b = first.below j up l in let u = later old rising i k (omega arith) lt in omega (arith, b, u, at))
]

-- all before the place where a seek ends is below the number
pub below_all : (xs old : List ℕ) (x n m i : ℕ) → i < length old → x ≡ slice_index old i → ((j k : ℕ) → j < n → i ≤ k → k < length old → slice_index xs j < slice_index old k)
    → IsFirst xs n x m → (j : ℕ) → j < m → slice_index xs j < x
below_all xs old x n m i lt at passed first j l = elim (cases_lt j n) [
  | inl low ↦ (let p = passed j i low (omega arith) lt in omega (arith, p, at))
  | inr up ↦ first.below j up l
]

-- ITEMS THAT ARE LEFT
pub same_at : (a b : List ℕ) (i : ℕ) → drop i a ≡ drop i b → slice_index a i ≡ slice_index b i
same_at a b i e =
    let zero_on : i + 0 ≡ i = omega arith in
    ap (slice_index a) (sym zero_on) ∙ sym (get_or-drop i a 0 0) ∙ ap (λ (xs : List ℕ). slice_index xs 0) e ∙ get_or-drop i b 0 0 ∙ ap (slice_index b) zero_on

any_default : (xs : List ℕ) (i d e : ℕ) → i < length xs → get_or xs i d ≡ get_or xs i e
any_default [] i d e lt = absurd (omega arith)
any_default (y ∷ ys) zero d e lt = refl
any_default (y ∷ ys) (suc i) d e lt = any_default ys i d e (omega arith)

pub here_at : (a b : List ℕ) (i x : ℕ) → i < length a → x ≡ get_or a i x → drop i a ≡ drop i b → x ≡ slice_index b i
here_at a b i x lt at e = at ∙ any_default a i x 0 lt ∙ same_at a b i e

pub same_after : (a b : List ℕ) (i : ℕ) → drop i a ≡ drop i b → drop (i + 1) a ≡ drop (i + 1) b
same_after a b i e = sym (drop-drop 1 i a) ∙ ap (drop 1) e ∙ drop-drop 1 i b

pub eqb-same : (x y : ℕ) → x ≡ y → eqb x y ≡ true
eqb-same x y h = grind (arith, nat_tests)

-- what a move of a cursor that was answered leaves of the source
pub left_by_move : {S T U : Type 0} {s : Ghosts S} {most : ℕ} {v : U} {w : T} {a b : S}
    → IsRead s most (Ok v) a b → ReadsSource s CountsReads (Ok w) a b
left_by_move left = source_as left.read (counts_same left.faults.ok)

-- whether the cursor's number is the one that was sought
pub current_is : (xs : List ℕ) (x m : ℕ) (o : Option ℕ) (b : Bool) → MatchOption o (m ≡ length xs) (λ v. (m < length xs) × (v ≡ slice_index xs m)) → b ≡ option_eq eqb o (Some x)
    → IsPosting xs → ((j : ℕ) → j < m → slice_index xs j < x) → (m < length xs → x ≤ slice_index xs m) → has xs x ≡ b
current_is xs x m None b at same posting below reaches = not_met xs x m posting below reaches (λ lt e. absurd (omega (arith, lt, at))) ∙ sym same
current_is xs x m (Some v) b at same posting below reaches = by (eqb v x) refl ∙ sym same
  where
    by : (c : Bool) → eqb v x ≡ c → has xs x ≡ c
    by true e = met xs x m posting below at.0 (sym (eqb-true v x e) ∙ at.1)
    by false e = not_met xs x m posting below reaches (λ lt same. (let k : v ≡ x = at.1 ∙ sym same in absurd (let t : true ≡ false = sym (eqb-same v x k) ∙ e in cc)))
