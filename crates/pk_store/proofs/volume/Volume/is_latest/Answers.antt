-- The disk was only looked at, so all that is known of the volume stays known.
use Rattle.pk_manifest.specs.Spelling.{view}
use Rattle.pk_store.specs.Caching.{blocks_of}
use Rattle.pk_store.specs.View.{VolumeView}
use Rattle.pk_store.proofs.FilteredLemmas.{volume_read}
use Rattle.pk_store.proofs.volume.Volume.is_latest.Goals as goal

pub invariant_of-self : goal.invariant_of-self
invariant_of-self g c =
    let v : VolumeView _ = record { disk = c.self.inside.disk; body = view c.self.inside.manifest; opened = c.self.inside.opened.items; spare = c.self.inside.spare; reopen = c.self.inside.reopen; blocks = blocks_of c.self.inside.cache } in
    volume_read g.D.Disk v c.is_latest.new.self c.self.inside.cache c.self.inside.tables c.is_latest.ensures.keeps c.self.invariant
