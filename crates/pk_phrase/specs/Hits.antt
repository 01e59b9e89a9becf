-- A row that is sought in the texts of documents, and how far the search is.
use Rattle.std.specs.Prelude.{◌≡◌, ◌<◌, ℕ, List, length, take, All, IfSome, IsUtf8, Some, slice_index, true}
use Rattle.pk_model.specs.Collection.{Doc, answer, numbers_of}
use Rattle.pk_model.specs.Tree.{Phrase}
use Rattle.pk_phrase.specs.declared.in_row.Candidate.{Candidate}
use Rattle.pk_phrase.specs.declared.in_row.RowHits.{RowHits}
use Rattle.pk_phrase.specs.declared.in_row.RowSearch.{RowSearch}
use Rattle.pk_segment.specs.Directory.{IsDirectoryOf}
use Rattle.pk_segment.specs.Opened.{IsSegmentOf}
use Rattle.pk_segment.specs.Reading.{text_of}
use Rattle.pk_segment.specs.Spelling.{SegmentSpells}
use Rattle.pk_sets.specs.Sets.{has, intersection}
use Rattle.pk_words.specs.Rows.{texts}

-- the numbers are of documents that these bytes spell
pub record IsSearchIn (bytes : List ℕ) (docs : List Doc) (s : RowSearch) : Type 0 where
  pub spelled : SegmentSpells bytes docs 2
  pub segment : IsSegmentOf s.segment.now docs
  pub directory : IfSome s.directory.now (λ d. IsDirectoryOf d docs 2)
  pub live : All (λ n. has (numbers_of docs) n ≡ true) s.numbers.now

-- the candidate is the next number
pub record IsNext (s : RowSearch) (h : RowHits) (c : Candidate) : Type 0 where
  pub some : h.next < length s.numbers.now
  pub number : c.number ≡ slice_index s.numbers.now h.next

-- of the numbers before the next those are kept in whose documents' texts the words stand in a row
pub record KeepsHits (docs : List Doc) (s : RowSearch) (h : RowHits) : Type 0 where
  pub items : h.kept.items
      ≡ intersection (take h.next s.numbers.now) (answer (Phrase (texts s.row.now.words.now)) docs)

-- the bytes are the text of the document of the number
pub record IsTextFor (docs : List Doc) (number : ℕ) (text : List ℕ) : Type 0 where
  pub utf8 : IsUtf8 text
  pub same : text_of docs number ≡ Some text
