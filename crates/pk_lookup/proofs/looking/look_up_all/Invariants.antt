-- The disk was only read, and the entries so far are those of the dictionaries, where the filters agree, as they do then.
use Rattle.std.proofs.Common.{◌≡◌, ◌*◌, ◌<◌, ℕ, Ok, length}
use Rattle.std.specs.Prelude.{All}
use Rattle.pk_open.specs.declared.opened.OpenSegment.{OpenSegment}
use Rattle.pk_segment.specs.OnlyRead.{ReadsDisk}
use Rattle.pk_segment.specs.Reading.{CountsReads}
use Rattle.pk_plan.specs.Words.{texts}
use Rattle.pk_lookup.specs.Counted.{AreCounted}
use Rattle.pk_lookup.specs.FilterBytes.{KeepsLimit}
use Rattle.pk_lookup.specs.Filtered.{FiltersAgree, FiltersBelow, filters_of}
use Rattle.pk_lookup.specs.Matching.{AreKeptTo}
use Rattle.pk_lookup.specs.SaidRows.{AreSaidTo}
use Rattle.pk_lookup.proofs.looking.look_up_all.Given as goal

abbrev pub invariant-loop-i : goal.invariant-loop-i
invariant-loop-i g l =
    let disk = g.D.Disk in
    let bytes = disk.content l.fn.source.disk.now in
    record {
      same_reference : l.source.disk.ghost_name ≡ l.fn.source.disk.ghost_name;
      left : ReadsDisk disk CountsReads (Ok (tt {0})) l.fn.source.disk.now l.source.disk.now;
      damage : l.damage.met ≡ l.fn.damage.met;
      long : length l.table.items ≡ l.i * length l.fn.words;
      agrees : disk.honest → FiltersAgree bytes (filters_of l.fn.tables) l.opened → FiltersAgree bytes (filters_of l.tables) l.opened;
      below : (next : ℕ) → All (λ (o : OpenSegment). o.entry.segment < next) l.opened → FiltersBelow next (filters_of l.fn.tables) → FiltersBelow next (filters_of l.tables);
      limit : KeepsLimit l.fn.tables.filters → KeepsLimit l.tables.filters;
      counted : AreCounted l.fn.tables.filters → AreCounted l.tables.filters;
      kept : disk.honest → FiltersAgree bytes (filters_of l.fn.tables) l.opened → AreKeptTo l.i bytes (texts l.fn.words) l.opened l.table.items;
      said : disk.honest → AreSaidTo l.i bytes (texts l.fn.words) l.opened (filters_of l.tables) l.table.items;
    }
