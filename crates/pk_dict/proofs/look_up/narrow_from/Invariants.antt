-- What is left of the search gives what all of it gives, and how many asks are left.
use Rattle.std.proofs.Common.{◌-◌, ◌≤◌, ◌+◌, ◌*◌, ◌^◌, ℕ, length}
use Rattle.pk_posting.specs.Limits.{asks_for}
use Rattle.pk_posting.proofs.SourceLemmas.{IsAnswered}
use Rattle.pk_dict.specs.Dictionary.{group_count}
use Rattle.pk_dict.specs.LookUp.{narrow_at}
use Rattle.pk_dict.specs.Place.{bytes_at}
use Rattle.pk_dict.proofs.Halving.{AsksLeft}
use Rattle.pk_dict.proofs.Narrowing.{Narrowing}
use Rattle.pk_dict.proofs.look_up.narrow_from.Given as goal

abbrev pub invariant-loop-low : goal.invariant-loop-low
invariant-loop-low g l = record {
  left : IsAnswered g.S.ByteSource l.fn.source l.source;
  asks : (k : ℕ) → l.fn.between.high - l.fn.between.low ≤ 2 ^ k → AsksLeft k (6 + asks_for (length l.term)) (l.high - l.low) (g.S.ByteSource.asked l.fn.source) (g.S.ByteSource.asked l.source);
  order : l.low ≤ l.high;
  most : l.high ≤ group_count l.place.terms;
  within : l.matched ≤ length l.term;
  narrowing : g.S.ByteSource.honest → Narrowing (bytes_at (g.S.ByteSource.content l.fn.source) l.place) (4 * group_count l.place.terms) l.term l.low l.high l.matched l.next
      (narrow_at (l.fn.between.high - l.fn.between.low) (bytes_at (g.S.ByteSource.content l.fn.source) l.place) (4 * group_count l.place.terms) l.term l.fn.between.low l.fn.between.high l.fn.between.matched l.fn.between.next);
}

abbrev pub decreases-loop-low : goal.decreases-loop-low
decreases-loop-low g l = l.high - l.low
