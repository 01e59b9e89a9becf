-- Where an open segment has its dictionary.
use Rattle.std.specs.Prelude.{◌≡◌, ◌+◌, ◌*◌, List}
use Rattle.pk_dict.specs.declared.entry.DictPlace.{DictPlace}
use Rattle.pk_model.specs.Collection.{Doc}
use Rattle.pk_segment.specs.declared.segment.Segment.{Segment}
use Rattle.pk_segment.specs.Listing.{dictionary_place}
use Rattle.pk_segment.specs.Opened.{IsSegmentOf, count_of, texts_of}

-- behind the texts and the posting lists, by the lengths of its header
abbrev pub dictionary_of : Segment → DictPlace
dictionary_of s = record {
  at = 24 + 12 * count_of s + texts_of s + s.lists;
  bytes = s.dictionary;
  terms = s.terms;
}

-- An open segment of kind 2 is one of these documents, and has the place of their dictionary.
pub record IsIndexedOf (s : Segment) (docs : List Doc) : Type 0 where
  pub segment : IsSegmentOf s docs
  pub dictionary : dictionary_of s ≡ dictionary_place docs
