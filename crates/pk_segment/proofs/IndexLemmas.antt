-- What the dictionary of documents says, and where the lists of its terms stand.
use Rattle.std.proofs.Common.{◌≡◌, ℕ, zero, suc, ◌+◌, ◌-◌, ◌^◌, ◌<◌, ◌≤◌, List, [], ◌∷◌, ◌++◌, length, take, drop, Bool, true, false, cond, Option, Some, None, refl, sym, ap, subst, ◌∙◌, arith}
use Rattle.std.specs.Prelude.{All, filter, slice_index}
use Rattle.std.specs.List.{AllByRecursion, list_any}
use Rattle.std.specs.Cmp.Lexicographic.{slice_cmp}
use Rattle.std.specs.List.Sorted.{IsStrictlyIncreasing, IsStrictlySortedBy}
use Rattle.std.specs.Ordering.{nat_cmp}
use Rattle.std.specs.Str.{bytes_eq}
use Rattle.std.proofs.lemmas.List.{length-append, length-map, take_at, drop_at, drop-drop}
use Rattle.std.proofs.lemmas.List.Elements.{All-filter, All-get_or, All-map}
use Rattle.std.proofs.lemmas.Slice.Eq.{bytes_eq-Decides}
use Rattle.unicode_segmentation.proofs.SegmentsLemmas.{length-filter-le}
use Rattle.pk_posting.specs.Limits.{longest_list}
use Rattle.pk_dict.specs.declared.entry.Entry.{Entry}
use Rattle.pk_dict.specs.Dictionary.{DictSpells, Fits, Item, entry_of, items_with_prefix}
use Rattle.pk_dict.specs.Dictionary.{terms_of as item_terms}
use Rattle.pk_dict.proofs.Room.{terms_within}
use Rattle.pk_model.proofs.CollectionLemmas.{rising-filter}
use Rattle.pk_model.proofs.TermLemmas.{are_terms, has_term, term_has}
use Rattle.pk_model.specs.Collection.{Doc, is_hit}
use Rattle.pk_model.specs.Terms.{terms_of}
use Rattle.pk_model.specs.Tree.{Term}
use Rattle.pk_posting.specs.Posting.{IsPosting}
use Rattle.pk_posting.specs.Spelling.{spelling as list_spelling}
use Rattle.pk_segment.specs.Indexed.{dictionary, items_at, items_of, list_with, lists_of, postings}
use Rattle.pk_segment.specs.Listing.{IsEntryFor, LeadsTo}
use Rattle.pk_segment.specs.Spelling.{AreDocuments}

-- an item for each word
pub items_count : (docs : List Doc) (at : ℕ) (ws : List (List ℕ)) → length (items_at at ws docs) ≡ length ws
items_count docs at [] = refl
items_count docs at (w ∷ ws) = ap suc (items_count docs (at + length (list_spelling (list_with w docs))) ws)

-- the words of the items
pub items_words : (docs : List Doc) (at : ℕ) (ws : List (List ℕ)) → item_terms (items_at at ws docs) ≡ ws
items_words docs at [] = refl
items_words docs at (w ∷ ws) = ap (λ (vs : List (List ℕ)). w ∷ vs) (items_words docs (at + length (list_spelling (list_with w docs))) ws)

-- no list is longer than the documents
pub list_most : (w : List ℕ) (docs : List Doc) → length (list_with w docs) ≤ length docs
list_most w docs = omega (arith, length-map (filter (is_hit (Term w)) docs) (λ (d : Doc). d.number), length-filter-le (is_hit (Term w)) docs)

-- rising numbers of at least 1 and below 2^32, not too many, have a spelling
posting_of : (xs : List ℕ) → IsStrictlyIncreasing xs → All (λ (n : ℕ). (1 ≤ n) × (n < 2 ^ 32)) xs → length xs ≤ longest_list → IsPosting xs
posting_of xs rise each short = record {
  rising = above;
  below = λ i lt. (All-get_or (λ (n : ℕ). (1 ≤ n) × (n < 2 ^ 32)) xs i 0 lt each).1;
  short = short;
}
  where
    above : (i : ℕ) → i < length xs → slice_index (0 ∷ xs) i < slice_index xs i
    above zero lt = omega (arith, (All-get_or (λ (n : ℕ). (1 ≤ n) × (n < 2 ^ 32)) xs 0 0 lt each).0)
    above (suc i) lt = let k : i + 1 ≡ suc i = omega arith in subst (λ (n : ℕ). slice_index xs i < slice_index xs n) k (rise i (omega (arith, lt)))

-- so has each list of a word
pub list_posting : (w : List ℕ) (docs : List Doc) → AreDocuments docs → length docs ≤ longest_list → IsPosting (list_with w docs)
list_posting w docs are few = posting_of (list_with w docs)
    (rising-filter (is_hit (Term w)) docs are.rising)
    (All-map (λ (n : ℕ). (1 ≤ n) × (n < 2 ^ 32)) (λ (d : Doc). d.number) (filter (is_hit (Term w)) docs) (All-filter (is_hit (Term w)) (λ (d : Doc). (1 ≤ d.number) × (d.number < 2 ^ 32)) docs are.each))
    (omega (arith, few, list_most w docs))

-- the numbers of the items are small where the lists are
fit : (docs : List Doc) (at size : ℕ) (ws : List (List ℕ)) → length docs < 2 ^ 32 → at + length (lists_of ws docs) < 2 ^ 32 → size < 2 ^ 32
    → AllByRecursion (λ (e : Item). length e.term ≤ size) (items_at at ws docs) → AllByRecursion Fits (items_at at ws docs)
fit docs at size [] few small short all = tt
fit docs at size (w ∷ ws) few small short all =
    let list = list_spelling (list_with w docs) in
    let parts = length-append list (lists_of ws docs) in (
      record {
        term = omega (arith, short, all.0);
        frequency = omega (arith, few, list_most w docs);
        at = omega (arith, small, parts);
        bytes = omega (arith, small, parts);
      },
      fit docs (at + length list) size ws few (omega (arith, small, parts)) short all.1,
    )

-- the dictionary of documents is one, where it and the lists are not too long
pub dictionary_spells : (docs : List Doc) → length docs < 2 ^ 32 → length (postings docs) < 2 ^ 32 → length (dictionary docs) < 2 ^ 32 → DictSpells (dictionary docs) (items_of docs)
unfolding dictionary postings
dictionary_spells docs few small short = record {
  rising = subst (λ (ws : List (List ℕ)). IsRisingWords ws) (sym (items_words docs 0 (terms_of docs))) (are_terms docs).rising;
  fits = fit docs 0 (length (dictionary docs)) (terms_of docs) few (omega (arith, small)) short (terms_within (items_of docs));
  size = short;
  same = refl;
}
  where
    IsRisingWords : List (List ℕ) → Type 0
    IsRisingWords ws = IsStrictlySortedBy (slice_cmp nat_cmp) ws

-- all items begin with nothing
pub all_items : (es : List Item) → items_with_prefix [] es ≡ es
all_items [] = refl
all_items (e ∷ es) = ap (λ (xs : List Item). e ∷ xs) (all_items es)

-- THE ENTRY OF A WORD among those of some words: its list stands at its place among theirs
record Stands (docs : List Doc) (at : ℕ) (ws : List (List ℕ)) (w : List ℕ) (e : Entry) : Type 0 where
  frequency : e.frequency ≡ length (list_with w docs)
  after : at ≤ e.place.at
  inside : e.place.at + e.place.bytes ≤ at + length (lists_of ws docs)
  list : take e.place.bytes (drop (e.place.at - at) (lists_of ws docs)) ≡ list_spelling (list_with w docs)

StandsOrNot : List Doc → ℕ → List (List ℕ) → List ℕ → Option Entry → Type 0
StandsOrNot docs at ws w None = list_any (bytes_eq w) ws ≡ false
StandsOrNot docs at ws w (Some e) = Stands docs at ws w e × (list_any (bytes_eq w) ws ≡ true)

same_words : (v w : List ℕ) → bytes_eq v w ≡ bytes_eq w v
same_words v w = by (bytes_eq v w) (bytes_eq w v) refl refl
  where
    by : (a b : Bool) → bytes_eq v w ≡ a → bytes_eq w v ≡ b → bytes_eq v w ≡ bytes_eq w v
    by true true x y = x ∙ sym y
    by false false x y = x ∙ sym y
    by true false x y = absurd (let k : false ≡ true = sym y ∙ (bytes_eq-Decides w v).1 (sym ((bytes_eq-Decides v w).0 x)) in cc)
    by false true x y = absurd (let k : false ≡ true = sym x ∙ (bytes_eq-Decides v w).1 (sym ((bytes_eq-Decides w v).0 y)) in cc)

-- the first word's own
here : (docs : List Doc) (at : ℕ) (v w : List ℕ) (vs : List (List ℕ)) → v ≡ w
    → Stands docs at (v ∷ vs) w (record { frequency = length (list_with v docs); place = record { at = at; bytes = length (list_spelling (list_with v docs)) } })
here docs at v w vs same =
    let list = list_spelling (list_with v docs) in
    let rest = lists_of vs docs in
    let z : at - at ≡ 0 = omega arith in
    record {
      frequency = ap (λ (u : List ℕ). length (list_with u docs)) same;
      after = omega arith;
      inside = omega (arith, length-append list rest);
      list = ap (λ (k : ℕ). take (length list) (drop k (list ++ rest))) z ∙ take_at list rest (length list) refl ∙ ap (λ (u : List ℕ). list_spelling (list_with u docs)) same;
    }

-- a later word's is one of all
further : (docs : List Doc) (at : ℕ) (v w : List ℕ) (vs : List (List ℕ)) (o : Option Entry) → bytes_eq w v ≡ false
    → StandsOrNot docs (at + length (list_spelling (list_with v docs))) vs w o → StandsOrNot docs at (v ∷ vs) w o
unfolding StandsOrNot
further docs at v w vs None other none = rw other none
further docs at v w vs (Some e) other found =
    let list = list_spelling (list_with v docs) in
    let rest = lists_of vs docs in
    let s = found.0 in
    let k : e.place.at - at ≡ length list + (e.place.at - (at + length list)) = omega (arith, s.after) in (
      record {
        frequency = s.frequency;
        after = omega (arith, s.after);
        inside = omega (arith, s.inside, length-append list rest);
        list = ap (λ (n : ℕ). take e.place.bytes (drop n (list ++ rest))) k
            ∙ ap (take e.place.bytes) (sym (drop-drop (e.place.at - (at + length list)) (length list) (list ++ rest)) ∙ ap (drop (e.place.at - (at + length list))) (drop_at list rest (length list) refl))
            ∙ s.list;
      },
      rw other found.1,
    )

stands : (docs : List Doc) (at : ℕ) (ws : List (List ℕ)) (w : List ℕ) → StandsOrNot docs at ws w (entry_of (items_at at ws docs) w)
unfolding StandsOrNot
stands docs at [] w = refl
stands docs at (v ∷ vs) w = by (stands docs (at + length (list_spelling (list_with v docs))) vs w) (bytes_eq v w) refl
  where
    entry : Entry
    entry = record { frequency = length (list_with v docs); place = record { at = at; bytes = length (list_spelling (list_with v docs)) } }

    by : StandsOrNot docs (at + length (list_spelling (list_with v docs))) vs w (entry_of (items_at (at + length (list_spelling (list_with v docs))) vs docs) w)
        → (b : Bool) → bytes_eq v w ≡ b → StandsOrNot docs at (v ∷ vs) w (cond b (Some entry) (entry_of (items_at (at + length (list_spelling (list_with v docs))) vs docs) w))
    by more true e = (here docs at v w vs ((bytes_eq-Decides v w).0 e), rw (sym (same_words v w) ∙ e) refl)
    by more false e = further docs at v w vs _ (sym (same_words v w) ∙ e) more

of_some : (docs : List Doc) (w : List ℕ) (e : Entry) → Stands docs 0 (terms_of docs) w e → list_any (bytes_eq w) (terms_of docs) ≡ true → LeadsTo docs w e
unfolding postings
of_some docs w e s there =
    let z : e.place.at - 0 ≡ e.place.at = omega arith in
    record {
      some = omega (arith, s.frequency, has_term w docs there);
      frequency = s.frequency;
      inside = omega (arith, s.inside);
      list = subst (λ (n : ℕ). take e.place.bytes (drop n (lists_of (terms_of docs) docs)) ≡ list_spelling (list_with w docs)) z s.list;
    }

-- what the dictionary says of a word leads to its list
pub leads : (docs : List Doc) (w : List ℕ) → IsEntryFor docs w (entry_of (items_of docs) w)
unfolding StandsOrNot
leads docs w = by (entry_of (items_of docs) w) (stands docs 0 (terms_of docs) w)
  where
    none : (xs : List ℕ) → (0 < length xs → ⊥) → xs ≡ []
    none [] h = refl
    none (x ∷ xs) h = absurd (h (omega arith))

    by : (o : Option Entry) → StandsOrNot docs 0 (terms_of docs) w o → IsEntryFor docs w o
    by None missing = none (list_with w docs) (λ some. let k : false ≡ true = sym missing ∙ term_has w docs some in cc)
    by (Some e) found = of_some docs w e found.0 found.1
