-- The numbers so far that are in the list stand in front, and the cursor has passed what is below the next one.
use Rattle.std.proofs.Common.{◌≡◌, ◌≤◌, ℕ, List, length, drop, Ok, None}
use Rattle.pk_cursor.specs.Standing.{StandsAt}
use Rattle.pk_posting.specs.Parts.{bytes_at}
use Rattle.pk_posting.specs.Frames.{ReadsSource}
use Rattle.pk_segment.specs.Reading.{CountsReads}
use Rattle.pk_lookup.proofs.ListLemmas.{SoughtTo}
use Rattle.pk_lookup.proofs.lists.keep_met.Given as goal

abbrev pub invariant-loop-i : goal.invariant-loop-i
invariant-loop-i g l =
    let content = g.S.ByteSource.content in
    record {
      reference : l.cursor.source.ghost_name ≡ l.fn.cursor.source.ghost_name;
      only_read : ReadsSource g.S.ByteSource CountsReads (Ok (tt {0})) l.fn.cursor.source.now l.cursor.source.now;
      sound : l.cursor.standing.fault ≡ None;
      damage : l.damage.met ≡ l.fn.damage.met;
      long : length l.numbers.items ≡ length l.fn.numbers.items;
      few : l.kept ≤ l.i;
      left : drop l.i l.numbers.items ≡ drop l.i l.fn.numbers.items;
      sought : g.S.ByteSource.honest → (xs : List ℕ) → StandsAt (bytes_at (content l.fn.cursor.source.now) l.fn.cursor.standing.place) l.fn.cursor.standing xs 0
          → SoughtTo (bytes_at (content l.cursor.source.now) l.cursor.standing.place) l.cursor.standing xs l.fn.numbers.items l.numbers.items l.kept l.i;
    }
