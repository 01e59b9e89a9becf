-- What is kept of filters, before and after a call.
use Rattle.std.proofs.Common.{◌≡◌, ◌∙◌, ◌⊎◌, ◌↔◌, inl, inr, ℕ, ◌<◌, Bool, true, false, not, IsTrue, List, [], ◌∷◌, ◌++◌, get_or, length, set, take, Option, Some, None, refl, sym, ap, subst, arith}
use Rattle.std.specs.Borrow.{Bor}
use Rattle.std.specs.Prelude.{All, Contains, IfSome}
use Rattle.std.specs.List.Sorted.{IsPermutation}
use Rattle.std.proofs.lemmas.List.{get_or-set_other, length-set}
use Rattle.std.proofs.lemmas.List.Elements.{All-contains, All-contains_itself, All-push, All-set, All-take, All-weaker}
use Rattle.std.proofs.lemmas.List.Sorted.{All-permutation}
use Rattle.pk_disk.specs.Units.{apart, extent_bytes}
use Rattle.pk_dict.specs.declared.entry.DictPlace.{DictPlace}
use Rattle.pk_dict.specs.Dictionary.{Item, entry_of}
use Rattle.pk_filter.proofs.FilterLemmas.{none_of}
use Rattle.pk_filter.specs.declared.filter.WordFilter.{WordFilter}
use Rattle.pk_filter.specs.declared.hash.WordHash.{WordHash}
use Rattle.pk_filter.specs.Filter.{HasAll, Passes}
use Rattle.pk_filter.specs.Hashed.{hashed}
use Rattle.pk_manifest.specs.Sound.{same_segment}
use Rattle.pk_model.specs.Collection.{Doc}
use Rattle.pk_open.specs.declared.opened.OpenSegment.{OpenSegment}
use Rattle.pk_open.specs.Opened.{entries_of}
use Rattle.pk_open.proofs.PlaceLemmas.{entries_many, entry_there}
use Rattle.pk_lookup.proofs.CacheLemmas.{one_place}
use Rattle.pk_lookup.proofs.EntryLemmas.{any_or}
use Rattle.pk_lookup.specs.declared.filters.SegmentFilter.{SegmentFilter}
use Rattle.pk_lookup.specs.Dropped.{DropsOnlyOf}
use Rattle.pk_lookup.specs.Filtered.{AddsFilterOf, AddsNoFilter, FiltersAgree, FiltersAgreeAt, FiltersBelow, HasWordsOf, IsFilterFor, KeepsFilter}
use Rattle.pk_segment.specs.Indexed.{items_of}
use Rattle.pk_segment.specs.Listing.{dictionary_place}
use Rattle.pk_segment.specs.Placed.{IsIndexedOf, dictionary_of}
use Rattle.pk_segment.specs.Spelling.{IndexSpells}

-- what is so of a filter, if there is one
pub some_so : {P Q : WordFilter → Type 0} (made : Option WordFilter) → ((filter : WordFilter) → P filter → Q filter) → IfSome made P → IfSome made Q
some_so None so is = tt
some_so (Some filter) so is = so filter is

pub none_so : (P : WordFilter → Type 0) (made : Option WordFilter) → made ≡ None → IfSome made P
none_so P made none = subst (λ (o : Option WordFilter). IfSome o P) (sym none) tt

-- a word that the filter of a dictionary does not let pass has no entry there
pub ruled_out : (es : List Item) (filter : WordFilter) (hash : WordHash) (word : List ℕ) (b : Bool) → (IsTrue b ↔ Passes filter hash) → HasAll es filter → hash ≡ hashed word → not b ≡ true → entry_of es word ≡ None
ruled_out es filter hash word true asked all is lacks = absurd (let f : false ≡ true = lacks in cc)
ruled_out es filter hash word false asked all is lacks =
    none_of es filter word all (λ passes. (
    let t : IsTrue false = asked.1 (subst (λ (h : WordHash). Passes filter h) (sym is) passes) in
    absurd (let f : false ≡ true = t in cc)))

-- ---- what is added
abbrev Was : List SegmentFilter → SegmentFilter → Type 0
Was old k = Contains old k ⊎ (k.filter ≡ None)

abbrev IsOf : Type 0 → List ℕ → OpenSegment → ℕ → WordFilter → Type 0
IsOf honest bytes o id filter = (id ≡ o.entry.segment) × (honest → HasWordsOf bytes o filter)

abbrev WasOr : Type 0 → List ℕ → OpenSegment → List SegmentFilter → SegmentFilter → Type 0
WasOr honest bytes o old k = Contains old k ⊎ IfSome k.filter (IsOf honest bytes o k.segment)

pub adds_none : (filters : List SegmentFilter) → AddsNoFilter filters filters
adds_none filters = All-weaker (Contains filters) (Was filters) (λ k there. inl there) filters (All-contains_itself filters)

pub adds_then : (a b c : List SegmentFilter) → AddsNoFilter a b → AddsNoFilter b c → AddsNoFilter a c
adds_then a b c first second = All-weaker (Was b) (Was a) (λ k is. elim is [ inl there ↦ All-contains (Was a) b k first there | inr none ↦ inr none ]) c second

pub adds_pushed : (filters : List SegmentFilter) (k : SegmentFilter) → k.filter ≡ None → AddsNoFilter filters (filters ++ k ∷ [])
adds_pushed filters k none = All-push (Was filters) filters k (adds_none filters) (inr none)

pub adds_moved : (filters now : List SegmentFilter) → IsPermutation filters now → AddsNoFilter filters now
adds_moved filters now moved = All-permutation (Was filters) filters now moved (adds_none filters)

pub adds_cut : (filters : List SegmentFilter) (n : ℕ) → AddsNoFilter filters (take n filters)
adds_cut filters n = All-take (Was filters) n filters (adds_none filters)

pub adds_still : (honest : Type 0) (bytes : List ℕ) (o : OpenSegment) (filters : List SegmentFilter) → AddsFilterOf honest bytes o filters filters
adds_still honest bytes o filters = All-weaker (Contains filters) (WasOr honest bytes o filters) (λ k there. inl there) filters (All-contains_itself filters)

pub adds_put : (honest : Type 0) (bytes : List ℕ) (o : OpenSegment) (filters : List SegmentFilter) (i : ℕ) (k : SegmentFilter) → IfSome k.filter (IsOf honest bytes o k.segment) → AddsFilterOf honest bytes o filters (set filters i k)
adds_put honest bytes o filters i k is = All-set (WasOr honest bytes o filters) filters i k (inr is) (adds_still honest bytes o filters)

-- a filter that was made of the dictionary of the segment is its own
pub made_of : (honest : Type 0) (bytes : List ℕ) (o : OpenSegment) (lies : DictPlace) (made : Option WordFilter) → lies ≡ dictionary_of o.segment
    → (honest → (docs : List Doc) → IndexSpells bytes docs → lies ≡ dictionary_place docs → IfSome made (HasAll (items_of docs))) → IfSome made (IsOf honest bytes o o.entry.segment)
made_of honest bytes o lies None same words = tt
made_of honest bytes o lies (Some filter) same words = (refl, λ h docs index of. words h docs index (same ∙ of.dictionary))

-- ---- what is dropped: what stood there was the segment's
contains_still : (filters : List SegmentFilter) (i : ℕ) (k was : SegmentFilter) → Contains filters was → ((d : SegmentFilter) → get_or filters i d ≡ was → ⊥) → Contains (set filters i k) was
contains_still filters i k was there other =
    let apart : there.0 ≡ i → ⊥ = λ same. other was (ap (λ (j : ℕ). get_or filters j was) (sym same) ∙ there.2) in
    (there.0, omega (arith, there.1, length-set filters i k), get_or-set_other filters i there.0 k was apart ∙ there.2)

pub drops_put : (filters : List SegmentFilter) (i id : ℕ) (k : SegmentFilter) → ((d : SegmentFilter) → (get_or filters i d).segment ≡ id) → DropsOnlyOf id filters (set filters i k)
drops_put filters i id k own other filter apart w = record {
  kept = w.kept;
  among = contains_still filters i k w.kept w.among (λ d same. apart (sym w.of ∙ ap (λ (x : SegmentFilter). x.segment) (sym same) ∙ own d));
  of = w.of;
  is = w.is;
}

-- ---- one segment: what is put in is its own
pub agrees_added : (honest : Type 0) (bytes : List ℕ) (o : OpenSegment) (old new : List SegmentFilter) → AddsFilterOf honest bytes o old new → honest → All (IsFilterFor bytes o) old → All (IsFilterFor bytes o) new
agrees_added honest bytes o old new adds h all =
    All-weaker (WasOr honest bytes o old) (IsFilterFor bytes o) (λ k is. elim is [
      | inl there ↦ All-contains (IsFilterFor bytes o) old k all there
      | inr one ↦ (λ same. some_so k.filter (λ filter p. p.1 h) one)
    ]) new adds

-- and the filter that is kept under its id has its words
pub kept_words : (bytes : List ℕ) (o : OpenSegment) (filters : List SegmentFilter) (filter : WordFilter) → All (IsFilterFor bytes o) filters → KeepsFilter filters o.entry.segment filter → HasWordsOf bytes o filter
kept_words bytes o filters filter all w =
    subst (λ (x : Option WordFilter). IfSome x (HasWordsOf bytes o)) w.is (All-contains (IsFilterFor bytes o) filters w.kept all w.among w.of)

pub lent_words : (bytes : List ℕ) (o : OpenSegment) (filters : List SegmentFilter) (docs : List Doc) (lent : Option (Bor WordFilter)) → All (IsFilterFor bytes o) filters → IndexSpells bytes docs → IsIndexedOf o.segment docs
    → IfSome lent (λ filter. KeepsFilter filters o.entry.segment filter.now) → IfSome lent (λ filter. HasAll (items_of docs) filter.now)
lent_words bytes o filters docs None all index of is = tt
lent_words bytes o filters docs (Some lent) all index of is = kept_words bytes o filters lent.now all is docs index of

-- ---- all of them
pub agree_still : (bytes : List ℕ) (old new : List SegmentFilter) (opened : List OpenSegment) → AddsNoFilter old new → FiltersAgree bytes old opened → FiltersAgree bytes new opened
agree_still bytes old new opened adds agree = All-weaker (FiltersAgreeAt bytes old) (FiltersAgreeAt bytes new) one opened agree
  where
    one : (o : OpenSegment) → FiltersAgreeAt bytes old o → FiltersAgreeAt bytes new o
    one o all = All-weaker (Was old) (IsFilterFor (extent_bytes bytes o.entry.extent) o) (λ k is. elim is [
      | inl there ↦ All-contains (IsFilterFor (extent_bytes bytes o.entry.extent) o) old k all there
      | inr none ↦ (λ same. none_so (HasWordsOf (extent_bytes bytes o.entry.extent) o) k.filter none)
    ]) new adds

pub below_still : (next : ℕ) (old new : List SegmentFilter) → AddsNoFilter old new → FiltersBelow next old → FiltersBelow next new
below_still next old new adds below =
    let Below : SegmentFilter → Type 0 = λ k. IfSome k.filter (λ _. k.segment < next) in
    All-weaker (Was old) Below (λ k is. elim is [
      | inl there ↦ All-contains Below old k below there
      | inr none ↦ none_so (λ _. k.segment < next) k.filter none
    ]) new adds

pub agree_at : (bytes : List ℕ) (filters : List SegmentFilter) (opened : List OpenSegment) (i : ℕ) (o : OpenSegment) → FiltersAgree bytes filters opened → i < length opened → o ≡ get_or opened i o → FiltersAgreeAt bytes filters o
agree_at bytes filters opened i o agree lt at = subst (FiltersAgreeAt bytes filters) (sym at) (agree i o lt)

-- the other segments agree as before with what was put in for one
pub agree_next : (honest : Type 0) (bytes : List ℕ) (old new : List SegmentFilter) (opened : List OpenSegment) (i : ℕ) (o : OpenSegment) → apart same_segment (entries_of opened) ≡ true → i < length opened → o ≡ get_or opened i o
    → AddsFilterOf honest (extent_bytes bytes o.entry.extent) o old new → honest → FiltersAgree bytes old opened → FiltersAgree bytes new opened
agree_next honest bytes old new opened i o ids lt at adds h agree j d within =
    All-weaker (WasOr honest (extent_bytes bytes o.entry.extent) o old) (IsFilterFor (extent_bytes bytes p.entry.extent) p) (λ k is. elim is [
      | inl there ↦ All-contains (IsFilterFor (extent_bytes bytes p.entry.extent) p) old k (agree j d within) there
      | inr one ↦ (λ same. some_so k.filter (λ filter q. own k filter same q) one)
    ]) new adds
  where
    p : OpenSegment
    p = get_or opened j d

    there : p ≡ get_or opened j p
    there = any_or opened j d p within

    own : (k : SegmentFilter) (filter : WordFilter) → k.segment ≡ p.entry.segment → IsOf honest (extent_bytes bytes o.entry.extent) o k.segment filter → HasWordsOf (extent_bytes bytes p.entry.extent) p filter
    own k filter same q =
        let many = entries_many opened in
        let place : j ≡ i = one_place (entries_of opened) j i p.entry o.entry ids (omega (arith, within, many)) (omega (arith, lt, many)) (entry_there opened j p within there) (entry_there opened i o lt at) (sym same ∙ q.0) in
        let p_is : p ≡ o = there ∙ ap (λ (n : ℕ). get_or opened n p) place ∙ any_or opened i p o lt ∙ sym at in
        subst (λ (x : OpenSegment). HasWordsOf (extent_bytes bytes x.entry.extent) x filter) (sym p_is) (q.1 h)

-- ids stay below the next one
pub below_next : (honest : Type 0) (bytes : List ℕ) (o : OpenSegment) (next : ℕ) (old new : List SegmentFilter) → AddsFilterOf honest bytes o old new → o.entry.segment < next → FiltersBelow next old → FiltersBelow next new
below_next honest bytes o next old new adds lt below =
    let Below : SegmentFilter → Type 0 = λ k. IfSome k.filter (λ _. k.segment < next) in
    All-weaker (WasOr honest bytes o old) Below (λ k is. elim is [
      | inl there ↦ All-contains Below old k below there
      | inr one ↦ some_so k.filter (λ filter p. omega (arith, p.0, lt)) one
    ]) new adds
