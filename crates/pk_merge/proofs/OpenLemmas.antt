-- Header and directory open as the segment that they begin.
use Rattle.std.proofs.Common.{◌≡◌, ◌∙◌, ◌<◌, ◌≤◌, ◌+◌, ◌-◌, ◌*◌, ◌^◌, ◌++◌, inr, ⊎_elim, List, ℕ, length, take, drop, refl, sym, ap, subst, arith, append_assoc, length-append, Err}
use Rattle.pk_model.specs.Collection.{Doc}
use Rattle.pk_model.specs.Limits.{max_segment_bytes}
use Rattle.pk_posting.specs.declared.source.SourceFault.{SourceFault}
use Rattle.pk_posting.specs.declared.source.SourceFault.TheVariants.{Damaged, Disk}
use Rattle.pk_posting.specs.Source.{CountsFaults}
use Rattle.pk_segment.specs.declared.header.Header.{Header}
use Rattle.pk_segment.specs.declared.segment.Segment.{Segment}
use Rattle.pk_segment.specs.Fields.{IsHeader, entry_field, header_field, number_at}
use Rattle.pk_segment.specs.Opened.{IsOpened}
use Rattle.pk_segment.specs.Placed.{IsIndexedOf}
use Rattle.pk_segment.proofs.PlacedLemmas.{placed_by}
use Rattle.pk_segment.specs.Spelling.{AreDocuments, SegmentSpells, dictionary_in, directory, header_in, postings_in, segment_length, segment_spelling, terms_in, texts}
use Rattle.pk_segment.proofs.OpeningLemmas.{counted, in_order, number_there, texts_counted, whole as is_whole}
use Rattle.pk_segment.proofs.SegmentLemmas.{behind, header_says, in_parts, inside_part, length_directory, length_header, length_segment, parts_of}

module _ (docs : List Doc) (are : AreDocuments docs) (fits : segment_length docs 2 ≤ max_segment_bytes) where
  abbrev pub front : List ℕ
  front = header_in docs 2 ++ directory 0 docs

  abbrev whole : List ℕ
  whole = segment_spelling docs 2

  spells : SegmentSpells whole docs 2
  spells = record { is_kind = inr refl; are = are; fits = fits; same = refl }

  pub front_long : length front ≡ 24 + 12 * length docs
  front_long =
      omega (
        arith,
        length-append (header_in docs 2) (directory 0 docs),
        length_header 2 (length docs) (length (texts docs)) (length (postings_in docs 2))
            (length (dictionary_in docs 2)) (terms_in docs 2),
        length_directory 0 docs,
      )

  same_part : (at n : ℕ) → at + n ≤ 24 + 12 * length docs → take n (drop at front) ≡ take n (drop at whole)
  same_part at n le =
      sym (ap (λ (l : List ℕ). take n (drop at l)) (in_parts docs 2
      ∙ sym (append_assoc (header_in docs 2) (directory 0 docs) (texts docs ++ behind docs 2)))
      ∙ inside_part at n front (texts docs ++ behind docs 2) (omega (arith, le, front_long)))

  header_there : (h : Header) → IsHeader (header_field front) h → IsHeader (header_field whole) h
  header_there h is = subst (λ (field : List ℕ). IsHeader field h) (same_part 0 24 (omega arith)) is

  entry_there : (i : ℕ) → i < length docs → number_at 0 (entry_field front i) ≡ number_at 0
      (entry_field whole i)
  entry_there i lt = ap (number_at 0) (same_part (24 + 12 * i) 12 (omega (arith, lt)))

  pub opened_of : (size : ℕ) (s : Segment) → IsOpened front size 2 s → IsIndexedOf s docs
  opened_of size s is =
      let some : 0 < length docs = are.some in
      let header = header_there is.header is.read in
      let count = counted whole docs 2 is.header spells header in
      placed_by whole docs is.header s spells header is.lists_is is.dictionary_is is.terms_is (record {
        count_is = is.count_is ∙ count;
        texts_is = is.texts_is ∙ texts_counted whole docs 2 is.header spells header;
        first_is = number_there whole docs 2 0 s.first spells some (is.first_is ∙ entry_there 0 some);
        last_is = number_there whole docs 2 (length docs - 1) s.last spells (omega (arith, some))
            (is.last_is ∙ ap (λ (n : ℕ). number_at 0 (entry_field front (n - 1))) count
            ∙ entry_there (length docs - 1) (omega (arith, some)));
      })

  abbrev said : Header
  said = record {
    kind = number_at 0 (header_field front);
    count = number_at 4 (header_field front);
    texts = number_at 8 (header_field front);
    postings = number_at 12 (header_field front);
    dictionary = number_at 16 (header_field front);
    terms = number_at 20 (header_field front);
  }

  said_there : IsHeader (header_field whole) said
  said_there =
      header_there said (record {
        kind_is = refl;
        count_is = refl;
        texts_is = refl;
        postings_is = refl;
        dictionary_is = refl;
        terms_is = refl;
      })

  said_short : 24 + 12 * said.count + said.texts + said.postings + said.dictionary < 2 ^ 32
  said_short =
      let says = header_says whole docs 2 spells in
      omega (
        arith,
        counted whole docs 2 said spells said_there,
        texts_counted whole docs 2 said spells
            said_there,
        said_there.postings_is,
        said_there.dictionary_is,
        says.postings_is,
        says.dictionary_is,
        parts_of docs 2,
        fits,
      )

  abbrev segment_is : Segment
  segment_is = record {
    count = said.count;
    texts = said.texts;
    lists = said.postings;
    dictionary = said.dictionary;
    terms = said.terms;
    first = number_at 0 (entry_field front 0);
    last = number_at 0 (entry_field front (said.count - 1));
    fits = said_short;
  }

  pub opens : (size : ℕ) → size ≡ segment_length docs 2 → (s : Segment) × IsOpened front size 2 s
  opens size long =
      let some : 0 < length docs = are.some in
      let count : said.count ≡ length docs = counted whole docs 2 said spells said_there in
      let order = in_order whole docs 2 (number_at 0 (entry_field front 0))
      (number_at 0 (entry_field front (said.count - 1))) spells (entry_there 0 some)
      (ap (λ (n : ℕ). number_at 0 (entry_field front (n - 1))) count
      ∙ entry_there (length docs - 1) (omega (arith, some))) in (
        segment_is,
        record {
          header = said;
          read = record {
            kind_is = refl;
            count_is = refl;
            texts_is = refl;
            postings_is = refl;
            dictionary_is = refl;
            terms_is = refl;
          };
          sound = is_whole whole docs 2 size said spells said_there (long ∙ sym (length_segment docs 2));
          inside = omega (arith, count, front_long);
          count_is = refl;
          texts_is = refl;
          lists_is = refl;
          dictionary_is = refl;
          terms_is = refl;
          first_is = refl;
          last_is = refl;
          least = order.0;
          order = order.1;
        },
      )

-- a slice as a source meets no fault of a device, nor one of the bytes where they open
pub opens_faultless : {T : Type 0} (fault : SourceFault) (bytes : List ℕ) (size : ℕ)
    → (fault ≡ Damaged → (s : Segment) → IsOpened bytes size 2 s → ⊥) → CountsFaults {T = T} 0 0 (Err fault)
    → (s : Segment) × IsOpened bytes size 2 s → ⊥
opens_faultless Damaged bytes size damaged counts is = damaged refl is.0 is.1
opens_faultless Disk bytes size damaged counts is = ⊎_elim (λ (rose : 0 < 0). absurd (omega (arith, rose)))
    (λ (full : 0 ≡ 2 ^ 64 - 1). absurd (omega (arith, full))) (counts.disk refl)
