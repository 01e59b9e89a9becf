-- No filter is kept yet.
use Rattle.pk_manifest.specs.Spelling.{view}
use Rattle.pk_store.specs.Caching.{blocks_of}
use Rattle.pk_store.specs.View.{volume_of}
use Rattle.pk_store.proofs.FilteredLemmas.{filtered_none}
use Rattle.pk_store.proofs.volume.Volume.new.Goals as goal

pub invariant_of-result : goal.invariant_of-result
invariant_of-result g c = (
  c.requires.ready,
  c.requires.cached,
  c.requires.room,
  filtered_none g.D.Disk (volume_of c.args.disk (view c.args.manifest) c.args.opened.items c.args.spare (blocks_of c.args.cache)) c.new-tables.result c.new-tables.ensures.filters,
)
