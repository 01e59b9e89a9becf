-- Of the numbers that were gone through those are kept in whose texts the words stand.
use Rattle.std.proofs.Common.{◌-◌, List, length, Ok}
use Rattle.pk_model.specs.Collection.{Doc}
use Rattle.pk_posting.specs.Frames.{ReadsSource}
use Rattle.pk_segment.specs.Reading.{CountsReads}
use Rattle.pk_phrase.specs.Hits.{IsSearchIn, KeepsHits}
use Rattle.pk_phrase.specs.Said.{HaveTexts, SearchRead}
use Rattle.pk_phrase.proofs.in_row.found_in_row.Given as goal

abbrev pub invariant-numbers : goal.invariant-numbers
invariant-numbers g l =
    let content = g.S.ByteSource.content in
    record {
      left : ReadsSource g.S.ByteSource CountsReads (Ok (tt {0})) l.fn.source l.source;
      kept : g.S.ByteSource.honest → (docs : List Doc) → IsSearchIn (content l.fn.source) docs l.search
          → KeepsHits docs l.search l.hits;
      read : g.S.ByteSource.honest → SearchRead (content l.fn.source) l.search
          → HaveTexts (content l.fn.source) l.search.segment.now l.search.numbers.now 0 l.hits.next;
    }

abbrev pub decreases-numbers : goal.decreases-numbers
decreases-numbers g l = length l.search.numbers.now - l.hits.next
