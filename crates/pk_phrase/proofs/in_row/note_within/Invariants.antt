-- Of the numbers that were gone through those are kept in whose texts the words stand.
use Rattle.std.proofs.Common.{◌-◌, ◌≤◌, List, ℕ, length}
use Rattle.pk_model.specs.Collection.{Doc}
use Rattle.pk_phrase.specs.Hits.{IsSearchIn, KeepsHits}
use Rattle.pk_phrase.specs.Said.{HaveTexts, SearchRead}
use Rattle.pk_phrase.specs.Spans.{IsSpanOf}
use Rattle.pk_phrase.proofs.in_row.note_within.Given as goal

abbrev pub invariant-texts : goal.invariant-texts
invariant-texts l = record {
  next : l.fn.hits.next ≤ l.hits.next;
  kept : (bytes : List ℕ) (docs : List Doc) → IsSearchIn bytes docs l.search → IsSpanOf bytes l.span
      → KeepsHits docs l.search l.fn.hits → KeepsHits docs l.search l.hits;
  read : (bytes : List ℕ) → SearchRead bytes l.search → IsSpanOf bytes l.span
      → HaveTexts bytes l.search.segment.now l.search.numbers.now l.fn.hits.next l.hits.next;
}

abbrev pub decreases-texts : goal.decreases-texts
decreases-texts l = length l.search.numbers.now - l.hits.next
