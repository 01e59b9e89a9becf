-- The body that is kept is the one in force.
use Rattle.std.proofs.Common.{◌∙◌, ap, subst}
use Rattle.pk_check.specs.Holding.{ChecksBodyAs}
use Rattle.pk_manifest.specs.Bodies.{other}
use Rattle.pk_manifest.specs.Spelling.{view}
use Rattle.pk_store.specs.Caching.{blocks_of}
use Rattle.pk_store.specs.View.{VolumeView}
use Rattle.pk_store.proofs.CheckLemmas.{has_body}
use Rattle.pk_store.proofs.volume.Volume.check.Goals as goal

pub returns-clause-checked : goal.returns-clause-checked
returns-clause-checked g c = λ honest clear.
    let v : VolumeView _ = record { disk = c.self.inside.disk; body = view c.self.inside.manifest; opened = c.self.inside.opened.items; spare = c.self.inside.spare; reopen = c.self.inside.reopen; blocks = blocks_of c.self.inside.cache } in
    let has = has_body g.D.Disk v c.self.invariant.0 honest (ap (λ (x : VolumeView _). x.reopen) c.self.view_is ∙ clear) in
    subst (λ (x : VolumeView _). ChecksBodyAs (g.D.Disk.content x.disk) c.check_body.result) c.self.view_is
    (c.check_body.ensures.checked honest (other v.spare) has)
