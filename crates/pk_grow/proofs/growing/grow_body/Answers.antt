-- A growth is a replacement whose writer writes nothing, with the claims of the body in force.
use Rattle.std.proofs.Common.{◌∙◌}
use Rattle.pk_manifest.specs.Spelling.{view}
use Rattle.pk_grow.proofs.GrowthLemmas.{IsGrowth, generation_rises, images_hold, now_has, now_holds, spare_is_firm}
use Rattle.pk_grow.proofs.growing.grow_body.Given as given
use Rattle.pk_grow.proofs.growing.grow_body.Goals as goal
use Rattle.pk_grow.proofs.growing.grow_body.Goals.{After-deref}

module _ (g : given.Over) (c : goal.After-deref g) (honest : g.D.Disk.honest) where
  growth : IsGrowth g.D.Disk c.args.disk.now c.args.manifest.units c.args.units (view c.args.manifest) c.args.spare c.deref.result.now
  growth = record {
    least = c.requires.least;
    longer = c.requires.longer;
    room = c.requires.room;
    has = c.requires.current honest;
    closed = c.requires.closed honest;
    sound = c.requires.sound;
    more = c.in_ok-body.ensures.next;
    is = c.deref.ensures.value ∙ c.in_ok-body.ensures.spelled;
  }

pub replace_with-requires-clause-firm : goal.replace_with-requires-clause-firm
replace_with-requires-clause-firm g c = λ honest. spare_is_firm (growth g (goal.at.replace_with-requires-clause-firm g c).After-deref honest)

pub replace_with-requires-clause-greater : goal.replace_with-requires-clause-greater
replace_with-requires-clause-greater g c = λ honest. generation_rises (growth g (goal.at.replace_with-requires-clause-greater g c).After-deref honest)

pub returns-in_default-clause-any_moment : goal.returns-in_default-clause-any_moment
returns-in_default-clause-any_moment g c = λ honest col holds.
    images_hold (growth g (goal.at.returns-in_default-clause-any_moment g c).After-deref honest) c.replace_with.new.disk _ col holds (c.replace_with.ensures.any_moment honest)

pub returns-clause-any_moment : goal.returns-clause-any_moment
returns-clause-any_moment g c = λ honest col holds.
    images_hold (growth g (goal.at.returns-clause-any_moment g c).After-deref honest) c.replace_with.new.disk _ col holds (c.replace_with.ensures.any_moment honest)

pub returns-clause-done : goal.returns-clause-done
returns-clause-done g c = λ honest col holds.
    now_holds (growth g (goal.at.returns-clause-done g c).After-deref honest) c.replace_with.new.disk _ col holds c.replace_with.ensures.size (c.in-Ok.ensures.done honest)

pub returns-clause-body : goal.returns-clause-body
returns-clause-body g c = λ honest col holds.
    now_has (growth g (goal.at.returns-clause-body g c).After-deref honest) c.replace_with.new.disk _ col holds c.replace_with.ensures.size (c.in-Ok.ensures.done honest)
