-- What reading a segment rests on.
use Rattle.std.proofs.Common.{◌≡◌, ℕ, zero, suc, ◌/◌, ◌+◌, ◌*◌, ◌^◌, ◌<◌, ◌≤◌, List, [], ◌∷◌, length, Some, None, refl, sym, ap, subst, ◌∙◌, arith, inl, inr, get_or, false}
use Rattle.std.proofs.lemmas.Bool.{cases_lt}
use Rattle.std.specs.Prelude.{All, IsUtf8}
use Rattle.std.specs.List.Sorted.{IsStrictlyIncreasing}
use Rattle.std.proofs.lemmas.List.{length-map}
use Rattle.std.proofs.lemmas.List.Elements.{All-map, All-head, All-tail}
use Rattle.std.proofs.lemmas.Str.{IsUtf8-string_bytes}
use Rattle.pk_model.specs.declared.documents.Document.{Document}
use Rattle.pk_model.specs.Collection.{Doc, numbers_of, is_live}
use Rattle.pk_model.specs.Views.{doc_of}
use Rattle.pk_model.specs.Limits.{max_segment_bytes}
use Rattle.pk_segment.specs.Spelling.{texts, segment_length, docs_of, AreDocuments}
use Rattle.std.proofs.Math.Nat.{pow-suc}
use Rattle.std.specs.Prelude.{Option, is_some, slice_get}
use Rattle.pk_posting.specs.declared.source.SourceFault.{SourceFault}
use Rattle.pk_posting.specs.declared.source.SourceFault.TheVariants as source
use Rattle.pk_segment.specs.declared.directory.Entry.{Entry}
use Rattle.pk_posting.specs.declared.fault.ReadFault.{ReadFault}
use Rattle.pk_posting.specs.declared.fault.ReadFault.TheVariants.{Damaged, Disk, Memory}
use Rattle.pk_segment.specs.Directory.{doc_in, EntrySays, FindsEntry}
use Rattle.pk_segment.specs.Reading.{IsNoDamage, read_of, text_of}
use Rattle.pk_segment.proofs.SegmentLemmas.{parts_of, rise_in, rise_of, text_found, live_at, live_missing}

-- the length of the segment of documents of the code
pub size_all : (ds : List Document) → 24 + 12 * length ds + length (texts (docs_of ds)) ≡ segment_length (docs_of ds) 1
size_all ds = let n = length-map ds doc_of in omega (arith, parts_of (docs_of ds) 1, n)

-- so many documents are too many
pub size_large : (ds : List Document) → 89478485 < length ds → max_segment_bytes < segment_length (docs_of ds) 1
size_large ds h = omega (arith, size_all ds)

-- documents of the code whose numbers rise from 1 on are such as a segment may hold
pub are_documents : (ds : List Document) → 0 < length ds → IsStrictlyIncreasing (numbers_of (docs_of ds)) → All (λ (d : Document). 1 ≤ d.number.0) ds
    → All (λ (d : Document). d.number.0 < 2 ^ 32) ds → AreDocuments (docs_of ds)
are_documents ds some rising least fit = record {
  some = omega (arith, some, length-map ds doc_of);
  rising = rising;
  each = All-map (λ (d : Doc). (1 ≤ d.number) × (d.number < 2 ^ 32)) doc_of ds (λ k d h. (least k d h, fit k d h));
  utf8 = All-map (λ (d : Doc). IsUtf8 d.text) doc_of ds (λ k d h. IsUtf8-string_bytes (get_or ds k d).text);
}

-- a reader's fault that is not damage is a cause
pub cause_of : (f : ReadFault) → (f ≡ Damaged → ⊥) → IsNoDamage f
cause_of Damaged h = absurd (h refl)
cause_of Disk h = tt
cause_of Memory h = tt

-- so is a source's
pub cause_read : (f : SourceFault) → (f ≡ source.Damaged → ⊥) → (y : ReadFault) → y ≡ read_of f → IsNoDamage y
cause_read source.Damaged h y same = absurd (h refl)
cause_read source.Disk h y same = subst (λ (x : ReadFault). IsNoDamage x) (sym same) tt

-- all below the middle are below its number, and all above it above
pub below_middle : (docs : List Doc) (m i n number at len : ℕ) → AreDocuments docs → m < length docs → EntrySays docs m number at len → number < n → i < m + 1 → (doc_in docs i).number < n
below_middle docs m i n number at len are lt says below le =
    elim (cases_lt i m) [
      | inl l ↦ omega (arith, rise_in 0 docs i m (rise_of docs are) l lt, says.number_is)
      | inr g ↦ let same : i ≡ m = omega arith in rw same (omega (arith, says.number_is, below))
    ]

pub above_middle : (docs : List Doc) (m i n number at len : ℕ) → AreDocuments docs → m < length docs → EntrySays docs m number at len → n < number → m ≤ i → i < length docs → n < (doc_in docs i).number
above_middle docs m i n number at len are lt says above le long =
    elim (cases_lt m i) [
      | inl l ↦ omega (arith, rise_in 0 docs m i (rise_of docs are) l long, says.number_is)
      | inr g ↦ let same : i ≡ m = omega arith in rw same (omega (arith, says.number_is, above))
    ]

-- nothing is left between
pub none_between : (docs : List Doc) (low high n : ℕ) → high ≤ low → ((i : ℕ) → i < low → (doc_in docs i).number < n) → ((i : ℕ) → high ≤ i → i < length docs → n < (doc_in docs i).number) → is_live n docs ≡ false
none_between docs low high n le below above = live_missing docs n (λ i h e. elim (cases_lt i low) [
  | inl l ↦ omega (arith, below i l, e)
  | inr g ↦ let hi : high ≤ i = omega arith in omega (arith, above i hi h, e)
])

-- an entry is found exactly where a document has the number
pub live_found : (docs : List Doc) (n : ℕ) (o : Option Entry) → FindsEntry docs n o → is_some o ≡ is_live n docs
live_found docs n None found = sym found
live_found docs n (Some e) found = sym (live_at docs found.0 n found.1 (sym found.3.number_is ∙ found.2))

-- the text of the document whose number an entry has
pub text_is : (docs : List Doc) (i number : ℕ) (text : List ℕ) → AreDocuments docs → i < length docs → number ≡ (doc_in docs i).number → text ≡ (doc_in docs i).text → Some text ≡ text_of docs number
text_is docs i number text are lt same read = ap (λ (x : List ℕ). Some x) read ∙ sym (text_found 0 docs i number (rise_of docs are) lt (sym same))

-- the ith document is UTF-8
pub utf8_in : (docs : List Doc) (i : ℕ) → i < length docs → All (λ (d : Doc). IsUtf8 d.text) docs → IsUtf8 (doc_in docs i).text
utf8_in [] i lt all = absurd (omega arith)
utf8_in (d ∷ docs) zero lt all = All-head (λ (x : Doc). IsUtf8 x.text) d docs all
utf8_in (d ∷ docs) (suc i) lt all = utf8_in docs i (omega arith) (All-tail (λ (x : Doc). IsUtf8 x.text) d docs all)

abbrev pub doc : ℕ → List ℕ → Doc
doc number text = record { number = number; text = text }

-- the ith document, by its number and text
pub document_is : (docs : List Doc) (i number : ℕ) (text : List ℕ) → i < length docs → number ≡ (doc_in docs i).number → text ≡ (doc_in docs i).text → slice_get docs i ≡ Some (doc number text)
document_is [] i number text lt n t = absurd (omega arith)
document_is (d ∷ docs) zero number text lt n t = rw (n, t) refl
document_is (d ∷ docs) (suc i) number text lt n t = document_is docs i number text (omega arith) n t

-- a range that is halved
pub halved : (t x a b k : ℕ) → 0 < x → x < 2 ^ t → a + t ≤ b + k → (u : ℕ) × (x / 2 < 2 ^ u) × (a + 1 + u ≤ b + k)
halved zero x a b k some lt le = absurd (omega arith)
halved (suc t) x a b k some lt le = let p = pow-suc 2 t in (t, omega arith, omega arith)
