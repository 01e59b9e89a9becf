-- What is known of the filters of segments' words that a volume keeps for its finds.
use Rattle.std.specs.Prelude.{◌≡◌, false}
use Rattle.pk_disk.specs.declared.disk.Disk.{Ghosts}
use Rattle.pk_search.specs.declared.tables.FindTables.{FindTables}
use Rattle.pk_lookup.specs.Filtered.{FiltersAgree, FiltersBelow, filters_of}
use Rattle.pk_store.specs.View.{VolumeView}

-- Whatever the segments hold, they are of segments whose ids were given; and on an honest disk, unless
-- a write has failed, they agree with the segments.
pub record IsFiltered {D : Type 0} (d : Ghosts D) (v : VolumeView D) (tables : FindTables)
    : Type 0 where
  pub below : FiltersBelow v.body.next_segment (filters_of tables.words)
  pub agrees : d.honest → v.reopen ≡ false
      → FiltersAgree (d.content v.disk) (filters_of tables.words) v.opened
