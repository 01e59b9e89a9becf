-- All words that were passed are less.
use Rattle.std.proofs.Common.{◌≡◌, ◌≤◌, ◌+◌, ◌*◌, ◌^◌, ◌-◌, ℕ, List, length}
use Rattle.pk_dict.specs.Cursor.{Comes, HoldsOf, ReadsAhead}
use Rattle.pk_dict.specs.Dictionary.{Item, group_count}
use Rattle.pk_dict.specs.Place.{bytes_at}
use Rattle.pk_dict.proofs.SeekingLaw.{Seeks}
use Rattle.pk_dict.proofs.Sought.{Passing, Spent}
use Rattle.pk_dict.proofs.Asks.{Short}
use Rattle.pk_posting.specs.Limits.{asks_for}
use Rattle.pk_posting.proofs.SourceLemmas.{IsAnswered}
use Rattle.pk_dict.proofs.cursor.TermCursor.find.Given as goal

abbrev pub invariant-loop-self : goal.invariant-loop-self
invariant-loop-self g l = record {
  left : IsAnswered g.S.ByteSource l.fn.source l.source;
  place : l.self.place ≡ l.fn.self.place;
  ahead : ReadsAhead l.fn.self.held.most l.self;
  fault : l.self.fault ≡ l.fn.self.fault;
  holds : g.S.ByteSource.honest → HoldsOf (bytes_at (g.S.ByteSource.content l.fn.source) l.fn.self.place) l.fn.self → HoldsOf (bytes_at (g.S.ByteSource.content l.fn.source) l.fn.self.place) l.self;
  said : g.S.ByteSource.honest → HoldsOf (bytes_at (g.S.ByteSource.content l.fn.source) l.fn.self.place) l.fn.self → Seeks (bytes_at (g.S.ByteSource.content l.fn.source) l.fn.self.place) l.self l.word;
  at : g.S.ByteSource.honest → (es : List Item) (n : ℕ) → Comes (bytes_at (g.S.ByteSource.content l.fn.source) l.fn.self.place) l.fn.self es n
      → Passing (bytes_at (g.S.ByteSource.content l.fn.source) l.fn.self.place) l.self es l.word;
  asks : g.S.ByteSource.honest → (es : List Item) (n : ℕ) → Comes (bytes_at (g.S.ByteSource.content l.fn.source) l.fn.self.place) l.fn.self es n → (k m : ℕ) → group_count l.fn.self.place.terms ≤ 2 ^ k → Short m es
      → Spent es l.word l.self (g.S.ByteSource.asked l.source) (g.S.ByteSource.asked l.fn.source + (k + 3) * (6 + asks_for (length l.word)) + 1) (6 + m);
}

abbrev pub decreases-loop-self : goal.decreases-loop-self
decreases-loop-self g l = l.self.place.terms - l.self.read
