-- What opens from a header and a directory is a segment of their documents, with their dictionary.
use Rattle.std.proofs.Common.{◌≡◌, ◌∙◌, ℕ, ◌+◌, ◌-◌, List, length, ap, arith}
use Rattle.pk_dict.specs.declared.entry.DictPlace.{DictPlace}
use Rattle.pk_model.specs.Collection.{Doc}
use Rattle.pk_segment.specs.declared.segment.Segment.{Segment}
use Rattle.pk_segment.specs.declared.header.Header.{Header}
use Rattle.pk_segment.specs.Fields.{IsHeader, entry_field, header_field, number_at}
use Rattle.pk_segment.specs.Listing.{postings_at}
use Rattle.pk_segment.specs.Opened.{IsOpened, IsSegmentOf, first_of, last_of}
use Rattle.pk_segment.specs.Placed.{IsIndexedOf}
use Rattle.pk_segment.specs.Indexed.{dictionary, postings}
use Rattle.pk_segment.specs.Spelling.{DirectorySpells, SegmentSpells}
use Rattle.pk_segment.proofs.DirectoryLemmas.{header_in, number_in}
use Rattle.pk_segment.proofs.OpeningLemmas.{counted, number_there, texts_counted}
use Rattle.pk_segment.proofs.SegmentLemmas.{header_says}

-- the header and the directory say all that an open segment does, whatever stands behind them
pub segment_in : (bytes : List ℕ) (docs : List Doc) (kind size : ℕ) (s : Segment) → IsOpened bytes size kind s → DirectorySpells bytes docs kind → IsSegmentOf s docs
segment_in bytes docs kind size s opened is =
    let own = is.segment in
    let some = is.spelled.are.some in
    let header = header_in bytes docs kind opened.header is opened.read in
    let count = counted own docs kind opened.header is.spelled header in
    record {
      count_is = opened.count_is ∙ count;
      texts_is = opened.texts_is ∙ texts_counted own docs kind opened.header is.spelled header;
      first_is = number_there own docs kind 0 (first_of s) is.spelled some (number_in bytes docs kind 0 (first_of s) is some opened.first_is);
      last_is = number_there own docs kind (length docs - 1) (last_of s) is.spelled (omega arith)
          (number_in bytes docs kind (length docs - 1) (last_of s) is (omega arith) (opened.last_is ∙ ap (λ (n : ℕ). number_at 0 (entry_field bytes (n - 1))) count));
    }

-- and in kind 2 the header says where the dictionary lies
pub placed_by : (own : List ℕ) (docs : List Doc) (h : Header) (s : Segment) → SegmentSpells own docs 2 → IsHeader (header_field own) h → s.lists ≡ h.postings → s.dictionary ≡ h.dictionary → s.terms ≡ h.terms → IsSegmentOf s docs → IsIndexedOf s docs
placed_by own docs h s spells header lists_is dictionary_is terms_is one =
    let says = header_says own docs 2 spells in
    let lists : s.lists ≡ length (postings docs) = lists_is ∙ header.postings_is ∙ says.postings_is in
    record {
      segment = one;
      dictionary =
          ap (λ (n : ℕ). place n s.dictionary s.terms) (omega (arith, one.count_is, one.texts_is, lists))
          ∙ ap (λ (n : ℕ). place (postings_at docs + length (postings docs)) n s.terms) (dictionary_is ∙ header.dictionary_is ∙ says.dictionary_is)
          ∙ ap (place (postings_at docs + length (postings docs)) (length (dictionary docs))) (terms_is ∙ header.terms_is ∙ says.terms_is);
    }
  where
    place : ℕ → ℕ → ℕ → DictPlace
    place at bytes terms = record { at = at; bytes = bytes; terms = terms }

pub indexed_in : (bytes : List ℕ) (docs : List Doc) (size : ℕ) (s : Segment) → IsOpened bytes size 2 s → DirectorySpells bytes docs 2 → IsIndexedOf s docs
indexed_in bytes docs size s opened is =
    placed_by is.segment docs opened.header s is.spelled (header_in bytes docs 2 opened.header is opened.read) opened.lists_is opened.dictionary_is opened.terms_is (segment_in bytes docs 2 size s opened is)
