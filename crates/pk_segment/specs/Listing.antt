-- What a segment of kind 2 says of a word.
use Rattle.std.specs.Prelude.{
  ◌≡◌,
  ℕ,
  ◌+◌,
  ◌*◌,
  ◌≤◌,
  ◌<◌,
  List,
  [],
  length,
  take,
  drop,
  Option,
  Some,
  None,
  Result,
  Ok,
  Err,
}
use Rattle.std.specs.Global.{Vec}
use Rattle.pk_dict.specs.declared.entry.DictPlace.{DictPlace}
use Rattle.pk_dict.specs.declared.entry.Entry.{Entry}
use Rattle.pk_dict.specs.Dictionary.{entry_of, items_with_prefix}
use Rattle.pk_dict.specs.Entries.{items_from}
use Rattle.pk_model.specs.Collection.{Doc}
use Rattle.pk_model.specs.Terms.{terms_of}
use Rattle.pk_posting.specs.Spelling.{spelling as list_spelling}
use Rattle.pk_posting.specs.declared.source.SourceFault.{SourceFault}
use Rattle.pk_posting.specs.declared.fault.ReadFault.{ReadFault}
use Rattle.pk_posting.specs.declared.fault.ReadFault.TheVariants.{Damaged, Disk, Memory}
use Rattle.pk_segment.specs.Indexed.{dictionary, items_of, list_with, postings}
use Rattle.pk_segment.specs.Reading.{IsNoDamage, read_of}
use Rattle.pk_segment.specs.Spelling.{texts}

-- where the posting lists begin
abbrev pub postings_at : List Doc → ℕ
postings_at docs = 24 + 12 * length docs + length (texts docs)

-- The entry is that of a word's list, which lies at its place among the posting lists.
pub record LeadsTo (docs : List Doc) (word : List ℕ) (e : Entry) : Type 0 where
  pub some : 0 < e.frequency
  pub frequency : e.frequency ≡ length (list_with word docs)
  pub inside : e.place.at + e.place.bytes ≤ length (postings docs)
  pub list : take e.place.bytes (drop e.place.at (postings docs))
      ≡ list_spelling (list_with word docs)

-- no entry is for a word that no document has
abbrev pub IsEntryFor : List Doc → List ℕ → Option Entry → Type 0
IsEntryFor docs word None = list_with word docs ≡ []
IsEntryFor docs word (Some e) = LeadsTo docs word e

-- where the dictionary lies
abbrev pub dictionary_place : List Doc → DictPlace
dictionary_place docs = record {
  at = postings_at docs + length (postings docs);
  bytes = length (dictionary docs);
  terms = length (terms_of docs);
}

abbrev pub PlacedAs : List Doc → Result DictPlace SourceFault → Type 0
PlacedAs docs (Ok place) = place ≡ dictionary_place docs
PlacedAs docs (Err fault) = IsNoDamage (read_of fault)

-- what the dictionary of the documents says of the word
abbrev pub ListedAs : List Doc → List ℕ → Result (Option Entry) ReadFault → Type 0
ListedAs docs word (Ok entry) = entry ≡ entry_of (items_of docs) word
ListedAs docs word (Err fault) = IsNoDamage fault

-- all that it says
abbrev pub TermsAs : List Doc → Result (Vec (Vec ℕ × Entry)) ReadFault → Type 0
TermsAs docs (Ok terms) = items_from terms.items ≡ items_of docs
TermsAs docs (Err fault) = IsNoDamage fault

-- what it says of the words that begin with a prefix
abbrev pub HasPrefixAs : List Doc → List ℕ → Result (Vec (Vec ℕ × Entry)) ReadFault → Type 0
HasPrefixAs docs prefix (Ok terms) = items_from terms.items ≡ items_with_prefix prefix (items_of docs)
HasPrefixAs docs prefix (Err fault) = IsNoDamage fault
