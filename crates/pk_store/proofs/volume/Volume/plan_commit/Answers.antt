-- The body is sound on a disk of its units.
use Rattle.std.proofs.Common.{◌≡◌, ◌∙◌, ap, subst}
use Rattle.pk_open.specs.Opened.{entries_of}
use Rattle.pk_store.specs.View.{VolumeView}
use Rattle.pk_store.proofs.PlanMergeLemmas.{sound_there}
use Rattle.pk_store.proofs.volume.Volume.plan_commit.Goals as goal

pub plan_commit-requires-clause-sound : goal.plan_commit-requires-clause-sound
plan_commit-requires-clause-sound g c = sound_there _ _ c.self.invariant.0.sound

pub plan_commit-requires-clause-opened : goal.plan_commit-requires-clause-opened
plan_commit-requires-clause-opened g c = ap entries_of c.deref.ensures.value ∙ c.self.invariant.0.opened

pub returns-clause-opened : goal.returns-clause-opened
returns-clause-opened g c = subst (λ (v : VolumeView _). entries_of v.opened ≡ v.body.entries) c.self.view_is c.self.invariant.0.opened
