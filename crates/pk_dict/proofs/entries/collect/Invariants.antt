-- What is left of the collection gives what all of it gives, and asks for no more.
use Rattle.std.proofs.Common.{◌≡◌, ◌≤◌, ◌+◌, ◌-◌, ◌*◌, []}
use Rattle.pk_posting.proofs.SourceLemmas.{IsAnswered}
use Rattle.pk_dict.specs.Entries.{asks_at, collect_at, items_from, items_from_group}
use Rattle.pk_dict.specs.Place.{bytes_at}
use Rattle.pk_dict.proofs.entries.collect.Given as goal

abbrev pub invariant-loop-i : goal.invariant-loop-i
invariant-loop-i g l = record {
  left : IsAnswered g.S.ByteSource l.fn.source l.source;
  value : g.S.ByteSource.honest → collect_at (l.place.terms - l.i) (bytes_at (g.S.ByteSource.content l.fn.source) l.place) l.prefix l.i l.term.items l.at (items_from l.found.items)
      ≡ items_from_group (bytes_at (g.S.ByteSource.content l.fn.source) l.place) l.place.terms l.prefix l.fn.start.group l.fn.start.at;
  asks : g.S.ByteSource.honest → g.S.ByteSource.asked l.source + asks_at (l.place.terms - l.i) (bytes_at (g.S.ByteSource.content l.fn.source) l.place) l.prefix l.i l.term.items l.at
      ≤ g.S.ByteSource.asked l.fn.source + asks_at (l.place.terms - 16 * l.fn.start.group) (bytes_at (g.S.ByteSource.content l.fn.source) l.place) l.prefix (16 * l.fn.start.group) [] l.fn.start.at;
}
