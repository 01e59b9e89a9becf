-- A segment of kind 2 before a byte of it is written.
use Rattle.std.specs.Prelude.{◌≡◌, ◌≤◌, ◌+◌, ◌*◌, ℕ, List, length, All, Result, Ok, Err}
use Rattle.std.specs.Option.{ForSome}
use Rattle.pk_model.specs.Limits.{max_segment_bytes}
use Rattle.pk_dict.specs.Dictionary.{Item}
use Rattle.pk_dict.specs.Writer.{HasAdded}
use Rattle.pk_model.specs.Collection.{Doc}
use Rattle.pk_model.specs.Terms.{terms_of}
use Rattle.pk_posting.specs.Spelling.{spelling as list_spelling}
use Rattle.pk_segment.specs.declared.building.BuildFault.{BuildFault}
use Rattle.pk_segment.specs.declared.header.Header.{Header}
use Rattle.pk_segment.specs.declared.index_writer.IndexWriter.{IndexWriter}
use Rattle.pk_segment.specs.declared.indexing.IndexPlan.{IndexPlan}
use Rattle.pk_segment.specs.Building.{BuildFails}
use Rattle.pk_segment.specs.Indexed.{dictionary, items_at, list_with, lists_of, postings}
use Rattle.pk_segment.specs.Spelling.{AreDocuments, segment_length, texts}

-- how many bytes a segment has by its header
abbrev pub size_in : Header → ℕ
size_in h = 24 + 12 * h.count + h.texts + h.postings + h.dictionary

-- The header is that of the segment of kind 2 of the documents.
pub record IsHeaderOf (docs : List Doc) (h : Header) : Type 0 where
  pub kind_is : h.kind ≡ 2
  pub count_is : h.count ≡ length docs
  pub texts_is : h.texts ≡ length (texts docs)
  pub postings_is : h.postings ≡ length (postings docs)
  pub dictionary_is : h.dictionary ≡ length (dictionary docs)
  pub terms_is : h.terms ≡ length (terms_of docs)

-- the header of the segment of kind 2 of the documents, or that would be too long
abbrev pub HeadedAs : List Doc → Result Header BuildFault → Type 0
HeadedAs docs (Ok h) = IsHeaderOf docs h × (segment_length docs 2 ≤ max_segment_bytes)
HeadedAs docs (Err fault) = BuildFails docs 2 fault

-- These words of the documents were added, each with its list: their entries, how long the lists
-- are, all and the longest, and as far as they are kept the lists themselves.
pub record HasWords (w : IndexWriter) (words : List (List ℕ)) (docs : List Doc) : Type 0 where
  pub added : HasAdded w.dictionary (items_at 0 words docs)
  pub postings_are : w.postings ≡ length (lists_of words docs)
  pub terms_are : w.terms ≡ length words
  pub longest_is : All (λ v. length (list_spelling (list_with v docs)) ≤ w.longest_list) words
  pub no_longer : (n : ℕ) → All (λ v. length (list_spelling (list_with v docs)) ≤ n) words
      → w.longest_list ≤ n
  pub lists_are : ForSome w.lists (λ v. v.items ≡ lists_of words docs)

-- its dictionary is of some entries
abbrev pub HasEntries : IndexWriter → Type 0
HasEntries w = (es : List Item) × HasAdded w.dictionary es

-- these words were added, or the segment of the documents would be too long, or memory was refused
abbrev pub AddsAs : {T : Type 0} → List Doc → List (List ℕ) → IndexWriter → Result T BuildFault
    → Type 0
AddsAs docs words w (Ok u) = HasWords w words docs
AddsAs docs words w (Err fault) = BuildFails docs 2 fault

-- all words of the documents were, or why not
abbrev pub IndexesAs : List Doc → Result IndexWriter BuildFault → Type 0
IndexesAs docs (Ok w) = HasWords w (terms_of docs) docs
IndexesAs docs (Err fault) = BuildFails docs 2 fault

-- The plan is that of the segment of kind 2 of the documents.
pub record IsIndexPlan (docs : List Doc) (p : IndexPlan) : Type 0 where
  pub are : AreDocuments docs
  pub header_is : IsHeaderOf docs p.header
  pub words : HasWords p.index (terms_of docs) docs
  pub fits : segment_length docs 2 ≤ max_segment_bytes

-- it, or why there is none
abbrev pub PlansIndexAs : List Doc → Result IndexPlan BuildFault → Type 0
PlansIndexAs docs (Ok p) = IsIndexPlan docs p
PlansIndexAs docs (Err fault) = BuildFails docs 2 fault
