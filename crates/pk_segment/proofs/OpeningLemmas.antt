-- What opening a segment rests on.
use Rattle.std.proofs.Common.{◌≡◌, ℕ, zero, suc, ◌+◌, ◌-◌, ◌*◌, ◌&&◌, ◌||◌, ◌<◌, ◌≤◌, List, [], ◌∷◌, length, Bool, true, false, eqb, leb, refl, sym, ap, ◌∙◌, arith}
use Rattle.std.specs.Prelude.{not, slice_index}
use Rattle.std.proofs.lemmas.Bool.{and_from, eq-eqb, le-leb, cases_lt}
use Rattle.std.proofs.Common.{inl, inr}
use Rattle.pk_model.specs.Collection.{Doc, numbers_of}
use Rattle.pk_segment.specs.declared.header.Header.{Header}
use Rattle.pk_segment.specs.Spelling.{IsKind, SegmentSpells, dictionary_in, postings_in, terms_in, texts}
use Rattle.pk_segment.specs.Directory.{doc_in}
use Rattle.pk_segment.specs.Fields.{IsHeader, is_plain, is_sound, header_field, entry_field, number_at}
use Rattle.pk_segment.proofs.SegmentLemmas.{header_says, length_parts, entry_number_at, above_all, rise_in, rise_of}

-- the header and the directory are there
pub long_enough : (bytes : List ℕ) (docs : List Doc) (kind : ℕ) → SegmentSpells bytes docs kind → 24 + 12 * length docs ≤ length bytes
long_enough bytes docs kind is = omega (arith, length_parts docs kind, ap length is.same)

pub counted : (bytes : List ℕ) (docs : List Doc) (kind : ℕ) (h : Header) → SegmentSpells bytes docs kind → IsHeader (header_field bytes) h → h.count ≡ length docs
counted bytes docs kind h is header = header.count_is ∙ (header_says bytes docs kind is).count_is

pub texts_counted : (bytes : List ℕ) (docs : List Doc) (kind : ℕ) (h : Header) → SegmentSpells bytes docs kind → IsHeader (header_field bytes) h → h.texts ≡ length (texts docs)
texts_counted bytes docs kind h is header = header.texts_is ∙ (header_says bytes docs kind is).texts_is

or_right : (a b : Bool) → b ≡ true → (a || b) ≡ true
or_right true b h = refl
or_right false b h = h

-- a segment of kind 1 has nothing behind its texts
plain_or_not : (docs : List Doc) (kind : ℕ) (h : Header) → IsKind kind → h.postings ≡ length (postings_in docs kind) → h.dictionary ≡ length (dictionary_in docs kind) → h.terms ≡ terms_in docs kind
    → (not (eqb kind 1) || is_plain h) ≡ true
plain_or_not docs kind h (inl e) p g m =
    let postings : h.postings ≡ 0 = p ∙ ap (λ k. length (postings_in docs k)) e in
    let dictionary : h.dictionary ≡ 0 = g ∙ ap (λ k. length (dictionary_in docs k)) e in
    let terms : h.terms ≡ 0 = m ∙ ap (terms_in docs) e in
    or_right _ (is_plain h) (and_from (eqb h.postings 0 && eqb h.dictionary 0) (eqb h.terms 0) (and_from (eqb h.postings 0) (eqb h.dictionary 0) (eq-eqb _ _ postings) (eq-eqb _ _ dictionary)) (eq-eqb _ _ terms))
plain_or_not docs kind h (inr e) p g m = rw e refl

-- the header of a segment is sound
pub whole : (bytes : List ℕ) (docs : List Doc) (kind size : ℕ) (h : Header) → SegmentSpells bytes docs kind → IsHeader (header_field bytes) h → size ≡ length bytes → is_sound size kind h ≡ true
whole bytes docs kind size h is header s =
    let says = header_says bytes docs kind is in
    let count : h.count ≡ length docs = header.count_is ∙ says.count_is in
    let text : h.texts ≡ length (texts docs) = header.texts_is ∙ says.texts_is in
    let postings : h.postings ≡ length (postings_in docs kind) = header.postings_is ∙ says.postings_is in
    let dictionary : h.dictionary ≡ length (dictionary_in docs kind) = header.dictionary_is ∙ says.dictionary_is in
    let terms : h.terms ≡ terms_in docs kind = header.terms_is ∙ says.terms_is in
    let long = length_parts docs kind in
    let there = ap length is.same in
    let some = is.are.some in
    let a : eqb h.kind kind ≡ true = eq-eqb h.kind kind (header.kind_is ∙ says.kind_is) in
    let b : leb 1 h.count ≡ true = le-leb 1 h.count (omega arith) in
    let d : eqb (24 + 12 * h.count + h.texts + h.postings + h.dictionary) size ≡ true = eq-eqb _ _ (omega arith) in
    let plain = plain_or_not docs kind h is.is_kind postings dictionary terms in
    and_from (eqb h.kind kind && leb 1 h.count && eqb (24 + 12 * h.count + h.texts + h.postings + h.dictionary) size) _
    (and_from (eqb h.kind kind && leb 1 h.count) (eqb (24 + 12 * h.count + h.texts + h.postings + h.dictionary) size) (and_from (eqb h.kind kind) (leb 1 h.count) a b) d)
    plain

-- the numbers by index
pub index_in : (docs : List Doc) (i : ℕ) → slice_index (numbers_of docs) i ≡ (doc_in docs i).number
index_in [] i = refl
index_in (d ∷ docs) zero = refl
index_in (d ∷ docs) (suc i) = index_in docs i

pub number_there : (bytes : List ℕ) (docs : List Doc) (kind i number : ℕ) → SegmentSpells bytes docs kind → i < length docs → number ≡ number_at 0 (entry_field bytes i) → number ≡ slice_index (numbers_of docs) i
number_there bytes docs kind i number is lt read = read ∙ entry_number_at bytes docs kind i is lt ∙ sym (index_in docs i)

-- the first number is at least 1, and at most the last
pub in_order : (bytes : List ℕ) (docs : List Doc) (kind first last : ℕ) → SegmentSpells bytes docs kind → first ≡ number_at 0 (entry_field bytes 0) → last ≡ number_at 0 (entry_field bytes (length docs - 1))
    → (1 ≤ first) × (first ≤ last)
in_order bytes docs kind first last is f l =
    let some = is.are.some in
    let end : length docs - 1 < length docs = omega arith in
    let a = f ∙ entry_number_at bytes docs kind 0 is some in
    let b = l ∙ entry_number_at bytes docs kind (length docs - 1) is end in
    let least = (above_all 0 docs 0 (rise_of docs is.are) some).0 in (
      omega (arith, a, least),
      elim (cases_lt 0 (length docs - 1)) [
        | inl lt ↦ omega (arith, a, b, rise_in 0 docs 0 (length docs - 1) (rise_of docs is.are) lt end)
        | inr ge ↦ let one : length docs - 1 ≡ 0 = omega arith in omega (arith, a, b, ap (λ (i : ℕ). (doc_in docs i).number) one)
      ],
    )
