-- The dictionary and the posting lists of a segment of kind 2 are where its header says.
use Rattle.std.proofs.Common.{◌≡◌, ℕ, ◌+◌, ◌≤◌, List, length, take, drop, [], Option, Some, None, refl, sym, ap, subst, ◌∙◌, arith}
use Rattle.std.proofs.lemmas.List.{drop-drop, drop_at, take_all}
use Rattle.pk_model.specs.Limits.{max_segment_bytes}
use Rattle.pk_dict.specs.declared.entry.DictPlace.{DictPlace}
use Rattle.pk_dict.specs.declared.entry.Entry.{Entry}
use Rattle.pk_dict.specs.Dictionary.{DictSpells, entry_of}
use Rattle.pk_dict.specs.Place.{bytes_at}
use Rattle.pk_dict.specs.Windows.{AsksNoMore}
use Rattle.pk_model.specs.Collection.{Doc}
use Rattle.pk_model.specs.Terms.{terms_of}
use Rattle.pk_posting.proofs.SpellingLemmas.{spelling_spells}
use Rattle.pk_posting.specs.Posting.{Spells}
use Rattle.pk_posting.specs.Spelling.{spelling as list_spelling}
use Rattle.pk_posting.specs.declared.fault.ReadFault.{ReadFault}
use Rattle.pk_posting.specs.declared.fault.ReadFault.TheVariants.{Damaged}
use Rattle.pk_segment.specs.declared.header.Header.{Header}
use Rattle.pk_segment.specs.Fields.{IsHeader, header_field}
use Rattle.pk_segment.specs.Indexed.{dictionary, items_of, list_with, postings}
use Rattle.pk_segment.specs.Listing.{IsEntryFor, LeadsTo, dictionary_place, postings_at}
use Rattle.pk_segment.specs.Reading.{IsNoDamage}
use Rattle.pk_segment.specs.Said.{dictionary_said}
use Rattle.pk_segment.specs.Spelling.{IndexSpells, SegmentSpells}
use Rattle.pk_segment.proofs.DirectoryLemmas.{directory_of, header_in}
use Rattle.pk_segment.proofs.IndexLemmas.{dictionary_spells, items_count, leads, list_posting}
use Rattle.pk_segment.proofs.ReadLemmas.{cause_of}
use Rattle.pk_segment.proofs.SegmentLemmas.{header_says, index_there, inside_part, length_parts, parts_of}

-- a segment of kind 2 has its index
pub index_of : (bytes : List ℕ) (docs : List Doc) → SegmentSpells bytes docs 2 → IndexSpells bytes docs
index_of bytes docs is = record {
  front = directory_of bytes docs 2 is;
  behind = ap (drop (postings_at docs)) is.same ∙ index_there docs 2;
}

-- how long it is
pub size_of : (bytes : List ℕ) (docs : List Doc) → IndexSpells bytes docs
    → length bytes ≡ postings_at docs + length (postings docs) + length (dictionary docs)
size_of bytes docs is = is.front.long ∙ ap length is.front.spelled.same ∙ length_parts docs 2

pub most : (bytes : List ℕ) (docs : List Doc) → IndexSpells bytes docs
    → postings_at docs + length (postings docs) + length (dictionary docs) ≤ max_segment_bytes
most bytes docs is = omega (arith, is.front.spelled.fits, parts_of docs 2)

-- what the header says of it
pub record Says (docs : List Doc) (h : Header) : Type 0 where
  pub postings_is : h.postings ≡ length (postings docs)
  pub dictionary_is : h.dictionary ≡ length (dictionary docs)
  pub terms_is : h.terms ≡ length (terms_of docs)

pub says : (bytes : List ℕ) (docs : List Doc) (h : Header) → IndexSpells bytes docs → IsHeader (header_field bytes) h → Says docs h
says bytes docs h is read =
    let header = header_in bytes docs 2 h is.front read in
    let all = header_says is.front.segment docs 2 is.front.spelled in
    record {
      postings_is = header.postings_is ∙ all.postings_is;
      dictionary_is = header.dictionary_is ∙ all.dictionary_is;
      terms_is = header.terms_is ∙ all.terms_is;
    }

-- the dictionary is where it is said to be
pub dictionary_there : (bytes : List ℕ) (docs : List Doc) → IndexSpells bytes docs → bytes_at bytes (dictionary_place docs) ≡ dictionary docs
unfolding bytes_at
dictionary_there bytes docs is =
    let lists = postings docs in
    let words = dictionary docs in
    ap (take (length words)) (sym (drop-drop (length lists) (postings_at docs) bytes) ∙ ap (drop (length lists)) is.behind ∙ drop_at lists words (length lists) refl)
    ∙ take_all (length words) words (omega arith)

pub dictionary_inside : (bytes : List ℕ) (docs : List Doc) → IndexSpells bytes docs → (dictionary_place docs).at + (dictionary_place docs).bytes ≤ length bytes
dictionary_inside bytes docs is = omega (arith, size_of bytes docs is)

-- and spells the items
pub items_spelled : (bytes : List ℕ) (docs : List Doc) → IndexSpells bytes docs → DictSpells (bytes_at bytes (dictionary_place docs)) (items_of docs)
items_spelled bytes docs is =
    let small = most bytes docs is in
    subst (λ (b : List ℕ). DictSpells b (items_of docs)) (sym (dictionary_there bytes docs is)) (dictionary_spells docs (omega (arith, small)) (omega (arith, small)) (omega (arith, small)))

-- the list that an entry leads to
pub list_there : (bytes : List ℕ) (docs : List Doc) (word : List ℕ) (e : Entry) → IndexSpells bytes docs → LeadsTo docs word e
    → (postings_at docs + e.place.at + e.place.bytes ≤ length bytes) × (take e.place.bytes (drop (postings_at docs + e.place.at) bytes) ≡ list_spelling (list_with word docs))
list_there bytes docs word e is leads = (
  omega (arith, size_of bytes docs is, leads.inside),
  ap (take e.place.bytes) (sym (drop-drop e.place.at (postings_at docs) bytes) ∙ ap (drop e.place.at) is.behind)
      ∙ inside_part e.place.at e.place.bytes (postings docs) (dictionary docs) leads.inside
      ∙ leads.list,
)

-- places whose parts are the same
abbrev place : ℕ → ℕ → ℕ → DictPlace
place at bytes terms = record { at = at; bytes = bytes; terms = terms }

place_same : (a b : DictPlace) → a.at ≡ b.at → a.bytes ≡ b.bytes → a.terms ≡ b.terms → a ≡ b
place_same a b at bytes terms =
    ap (λ (n : ℕ). place n a.bytes a.terms) at ∙ ap (λ (n : ℕ). place b.at n a.terms) bytes ∙ ap (place b.at b.bytes) terms

-- so the place that was read is the dictionary's
pub place_is : (docs : List Doc) (h : Header) (at : ℕ) → Says docs h → at ≡ postings_at docs + length (postings docs)
    → record { at = at; bytes = h.dictionary; terms = h.terms } ≡ dictionary_place docs
place_is docs h at read start =
    place_same (place at h.dictionary h.terms) (dictionary_place docs) start read.dictionary_is read.terms_is

-- and the one that the header says, whatever the bytes are
pub place_said : (lists : ℕ) (bytes : List ℕ) (h : Header) (at : ℕ) → IsHeader (header_field bytes) h → at ≡ lists + h.postings
    → record { at = at; bytes = h.dictionary; terms = h.terms } ≡ dictionary_said lists bytes
place_said lists bytes h at read start =
    place_same (place at h.dictionary h.terms) (dictionary_said lists bytes) (omega (arith, start, read.postings_is)) read.dictionary_is read.terms_is

-- THE DICTIONARY at a place that was read: it is there, and says the items
pub record IsThere (bytes : List ℕ) (docs : List Doc) (place : DictPlace) : Type 0 where
  pub inside : place.at + place.bytes ≤ length bytes
  pub spelled : DictSpells (bytes_at bytes place) (items_of docs)
  pub count : length (items_of docs) ≡ place.terms

pub is_there : (bytes : List ℕ) (docs : List Doc) (place : DictPlace) → IndexSpells bytes docs → place ≡ dictionary_place docs → IsThere bytes docs place
is_there bytes docs place is same = record {
  inside = subst (λ (p : DictPlace). p.at + p.bytes ≤ length bytes) (sym same) (dictionary_inside bytes docs is);
  spelled = subst (λ (p : DictPlace). DictSpells (bytes_at bytes p) (items_of docs)) (sym same) (items_spelled bytes docs is);
  count = items_count docs 0 (terms_of docs) ∙ ap (λ (p : DictPlace). p.terms) (sym same);
}

-- a fault that is passed on, and is no damage, is a cause
pub entries_cause : (f : ReadFault) → (f ≡ Damaged → ⊥) → (y : ReadFault) → y ≡ f → IsNoDamage y
entries_cause f undamaged y same = subst (λ (x : ReadFault). IsNoDamage x) (sym same) (cause_of f undamaged)

-- ---- a list that is read

-- an entry that was found leads to the list, and where none was there is none
pub some_leads : (docs : List Doc) (word : List ℕ) (o : Option Entry) (e : Entry) → o ≡ entry_of (items_of docs) word → o ≡ Some e → LeadsTo docs word e
some_leads docs word o e found is = subst (IsEntryFor docs word) (sym found ∙ is) (leads docs word)

pub none_has : (docs : List Doc) (word : List ℕ) (o : Option Entry) → o ≡ entry_of (items_of docs) word → o ≡ None → list_with word docs ≡ []
none_has docs word o found is = subst (IsEntryFor docs word) (sym found ∙ is) (leads docs word)

-- the bytes of a list spell it
pub list_spelled : (bytes : List ℕ) (docs : List Doc) (word list : List ℕ) → IndexSpells bytes docs → list ≡ list_spelling (list_with word docs) → Spells list (list_with word docs)
list_spelled bytes docs word list is same =
    subst (λ (l : List ℕ). Spells l (list_with word docs)) (sym same)
    (spelling_spells (list_with word docs) (list_posting word docs is.front.spelled.are (omega (arith, most bytes docs is))))

-- a source is asked at most as often as the windows over it, which were not asked before
pub asks_most : (asked asked_now below below_now before n : ℕ) → AsksNoMore asked asked_now below below_now → asked ≡ 0 → asked_now ≤ asked + n → below ≤ before → below_now ≤ before + n
asks_most asked asked_now below below_now before n no_more none few first = grind (arith, no_more.few, no_more.most, none, few, first)
