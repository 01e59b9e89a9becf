-- The entries so far are those of the dictionary, and the source was only read.
use Rattle.std.proofs.Common.{◌≡◌, List, None, Ok, length, take}
use Rattle.std.specs.Prelude.{IfSome}
use Rattle.pk_filter.specs.Filter.{HasAll}
use Rattle.pk_model.specs.Collection.{Doc}
use Rattle.pk_plan.specs.Words.{texts}
use Rattle.pk_posting.specs.Frames.{ReadsSource}
use Rattle.pk_lookup.specs.Matching.{AreEntriesOf}
use Rattle.pk_lookup.specs.Said.{SaysOfEach}
use Rattle.pk_segment.specs.Indexed.{items_of}
use Rattle.pk_segment.specs.Listing.{dictionary_place}
use Rattle.pk_segment.specs.Reading.{CountsReads}
use Rattle.pk_segment.specs.Spelling.{IndexSpells}
use Rattle.pk_lookup.proofs.listed.put_entries.Given as goal

abbrev pub invariant-loop-place : goal.invariant-loop-place
invariant-loop-place g l =
    let content = g.S.ByteSource.content in
    record {
      left : ReadsSource g.S.ByteSource CountsReads (Ok (tt {0})) l.fn.source l.source;
      damage : l.damage.met ≡ l.fn.damage.met;
      long : length l.known.items ≡ l._place;
      entries : g.S.ByteSource.honest → (docs : List Doc) → IndexSpells (content l.fn.source) docs → l.dict.lies ≡ dictionary_place docs → IfSome l.dict.filter (λ filter. HasAll (items_of docs) filter.now) → AreEntriesOf l.known.items (take l._place (texts l.asked.words.now)) docs;
      says : g.S.ByteSource.honest → l.dict.filter ≡ None → SaysOfEach (content l.fn.source) l.dict.lies (texts l.asked.words.now) l.known.items;
    }
