-- The numbers that are there, and those of the words that are left, are all.
use Rattle.std.proofs.Common.{◌≡◌, List, None, Ok, false, length}
use Rattle.pk_dict.specs.Cursor.{HoldsOf}
use Rattle.pk_dict.specs.Place.{LiesIn, bytes_at}
use Rattle.pk_dict.specs.Prefix.{words_to_come}
use Rattle.pk_model.specs.Collection.{Doc}
use Rattle.pk_posting.specs.Frames.{ReadsSource}
use Rattle.pk_segment.specs.Placed.{IsIndexedOf, dictionary_of}
use Rattle.pk_segment.specs.Reading.{CountsReads}
use Rattle.pk_segment.specs.Spelling.{IndexSpells}
use Rattle.pk_lookup.proofs.BegunLemmas.{Given}
use Rattle.pk_lookup.proofs.PrefixLemmas.{Remains}
use Rattle.pk_lookup.proofs.prefix.unite_lists.Given as goal

abbrev pub invariant-entries : goal.invariant-entries
invariant-entries g l =
    let content = g.S.ByteSource.content in
    record {
      left : ReadsSource g.S.ByteSource CountsReads (Ok (tt {0})) l.fn.source l.source;
      lies : LiesIn l.words.cursor.place (length (content l.source));
      sound : l.words.cursor.fault ≡ None;
      numbers : g.S.ByteSource.honest → (docs : List Doc) → IndexSpells (content l.fn.source) docs → IsIndexedOf l.segment docs
          → Remains (bytes_at (content l.source) l.words.cursor.place) docs l.prefix l.words l.united;
      place : l.words.cursor.place ≡ dictionary_of l.segment;
      on : l.words.ended ≡ false;
      prefix : l.words.prefix.now ≡ l.prefix;
      holds : g.S.ByteSource.honest → HoldsOf (bytes_at (content l.fn.source) (dictionary_of l.segment)) l.words.cursor;
      given : g.S.ByteSource.honest
          → Given l.words.begun (bytes_at (content l.fn.source) (dictionary_of l.segment)) (dictionary_of l.segment).terms l.prefix l.segment (length (content l.fn.source)) l.words.cursor l.united;
    }

abbrev pub decreases-entries : goal.decreases-entries
decreases-entries g l = words_to_come l.words
