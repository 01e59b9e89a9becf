-- What is below the range has smaller numbers, what is above it greater ones.
use Rattle.std.proofs.Common.{◌≤◌, ◌<◌, ◌+◌, ◌-◌, ◌^◌, List, ℕ, length}
use Rattle.pk_model.specs.Collection.{Doc}
use Rattle.pk_posting.proofs.SourceLemmas.{IsAnswered}
use Rattle.pk_segment.specs.Spelling.{DirectorySpells}
use Rattle.pk_segment.specs.Directory.{doc_in}
use Rattle.pk_segment.specs.Opened.{IsSegmentOf}
use Rattle.pk_segment.proofs.segment.Segment.entry_with.Given as goal

abbrev pub invariant-loop-low : goal.invariant-loop-low
invariant-loop-low g l =
    let content = g.S.ByteSource.content in
    record {
      left : IsAnswered g.S.ByteSource l.fn.source l.source;
      within : l.high ≤ l.self.count;
      asked : (k : ℕ) → l.self.count < 2 ^ k → (t : ℕ) × (l.high - l.low < 2 ^ t) × (g.S.ByteSource.asked l.source + t ≤ g.S.ByteSource.asked l.fn.source + k);
      below : g.S.ByteSource.honest → (docs : List Doc) (kind : ℕ) → DirectorySpells (content l.fn.source) docs kind → IsSegmentOf l.self docs
          → (i : ℕ) → i < l.low → (doc_in docs i).number < l.number;
      above : g.S.ByteSource.honest → (docs : List Doc) (kind : ℕ) → DirectorySpells (content l.fn.source) docs kind → IsSegmentOf l.self docs
          → (i : ℕ) → l.high ≤ i → i < length docs → l.number < (doc_in docs i).number;
    }

abbrev pub decreases-loop-low : goal.decreases-loop-low
decreases-loop-low g l = l.high - l.low
