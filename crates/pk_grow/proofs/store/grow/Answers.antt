-- The body is read, of the units that it says, and then another takes its place.
use Rattle.std.proofs.Common.{IfErr, Err, List, ap, subst, sym, ℕ}
use Rattle.pk_disk.specs.Disk.{IsImage}
use Rattle.pk_disk.specs.Since.{OnlyNew}
use Rattle.pk_manifest.specs.Spelling.{view}
use Rattle.pk_model.specs.Collection.{Collection}
use Rattle.pk_grow.specs.Growth.{GrowsAs, HoldsStore, IsSoundGrowFault}
use Rattle.pk_grow.proofs.GrowthLemmas.{IsShorter, failed_as, grew, left_holds, of_err, read_has, read_holds, read_left}
use Rattle.pk_grow.proofs.store.grow.Given as given
use Rattle.pk_grow.proofs.store.grow.Goals as goal
use Rattle.pk_grow.proofs.store.grow.Goals.{After-grow_body, After-other}

module _ (g : given.Over) (c : goal.After-other g) (honest : g.D.Disk.honest) where
  shorter : IsShorter g.D.Disk c.args.units c.args.disk.now c.body_due.new.disk c.in-Some.found.1 (view c.in-Some.found.0)
  shorter =
      let due = rw c.in-Some.is at (c.in_ok-found.ensures.answer honest) in
      record { has = due.0; fewer = due.1; least = rw c.in-Some.is at c.in_ok-found.ensures.least; read = c.in_ok-found.ensures.read honest }

module _ (g : given.Over) (c : goal.After-grow_body g) (honest : g.D.Disk.honest) (is : IsShorter g.D.Disk c.args.units c.args.disk.now c.body_due.new.disk c.in-Some.found.1 (view c.in-Some.found.0))
    (col : Collection) (holds : HoldsStore (g.D.Disk.content c.args.disk.now) col) where
  moments : OnlyNew g.D.Disk.moment g.D.Disk.images_since c.args.disk.now c.grow_body.new.disk (λ image. HoldsStore image col)
  moments = grew is c.grow_body.new.disk col c.requires.room holds (c.grow_body.ensures.any_moment honest col)

  kept : (image : List ℕ) → IsImage (g.D.Disk.content c.grow_body.new.disk) (g.D.Disk.is_open c.grow_body.new.disk) image → HoldsStore image col
  kept = left_holds g.D.Disk (λ x t image le is. g.met.D.Disk.counts_now x t image honest le is) (λ x image since. g.met.D.Disk.only_now x image honest since) c.args.disk.now c.grow_body.new.disk col
      (c.requires.closed honest) holds moments

pub returns-in_err-found-clause-kept : goal.returns-in_err-found-clause-kept
returns-in_err-found-clause-kept g c = λ honest col holds.
    read_left g.D.Disk c.args.disk.now c.body_due.new.disk col (c.body_due.ensures.read honest) (c.requires.closed honest) holds

pub returns-in_err-found-clause-fault : goal.returns-in_err-found-clause-fault
returns-in_err-found-clause-fault g c = λ honest col holds.
    of_err c.from_residual.result _ (λ r. IfErr r IsSoundGrowFault) c.from_residual.ensures.1
    (λ e is. subst IsSoundGrowFault (sym is) (c.in_err-found.ensures.fault honest col holds))

pub returns-in_default-clause-kept : goal.returns-in_default-clause-kept
returns-in_default-clause-kept g c = λ honest col holds.
    read_left g.D.Disk c.args.disk.now c.body_due.new.disk col (c.body_due.ensures.read honest) (c.requires.closed honest) holds

pub grow_body-requires-clause-current : goal.grow_body-requires-clause-current
grow_body-requires-clause-current g c = λ honest.
    read_has (shorter g (goal.at.grow_body-requires-clause-current g c).After-other honest) c.other.result c.other.ensures

pub returns-in_err-grow_body-clause-any_moment : goal.returns-in_err-grow_body-clause-any_moment
returns-in_err-grow_body-clause-any_moment g c = λ honest.
    let w = goal.at.returns-in_err-grow_body-clause-any_moment g c in
    moments g w.After-grow_body honest (shorter g w.After-other honest)

pub returns-in_err-grow_body-clause-kept : goal.returns-in_err-grow_body-clause-kept
returns-in_err-grow_body-clause-kept g c = λ honest.
    let w = goal.at.returns-in_err-grow_body-clause-kept g c in
    kept g w.After-grow_body honest (shorter g w.After-other honest)

pub returns-clause-any_moment : goal.returns-clause-any_moment
returns-clause-any_moment g c = λ honest.
    let w = goal.at.returns-clause-any_moment g c in
    moments g w.After-grow_body honest (shorter g w.After-other honest)

pub returns-clause-kept : goal.returns-clause-kept
returns-clause-kept g c = λ honest.
    let w = goal.at.returns-clause-kept g c in
    kept g w.After-grow_body honest (shorter g w.After-other honest)

pub returns-in_err-grow_body-clause-answer : goal.returns-in_err-grow_body-clause-answer
returns-in_err-grow_body-clause-answer g c = λ honest.
    let is = shorter g (goal.at.returns-in_err-grow_body-clause-answer g c).After-other honest in
    of_err c.from_residual-in_err-grow_body.result _ (GrowsAs c.args.units (g.D.Disk.content c.args.disk.now)) c.from_residual-in_err-grow_body.ensures.1
    (λ fault same. subst (λ f. GrowsAs c.args.units (g.D.Disk.content c.args.disk.now) (Err f)) (sym same)
    (failed_as _ _ c.args.units _ _ is.has c.in_err-grow_body.ensures.fault (λ last. (c.in_err-grow_body.ensures.used_up).0 (ap (λ f. Err f) last))))

pub returns-clause-done : goal.returns-clause-done
returns-clause-done g c = λ honest col holds.
    let is = shorter g (goal.at.returns-clause-done g c).After-other honest in
    c.in_ok-grow_body.ensures.done honest col (read_holds is col holds)

pub returns-clause-answer : goal.returns-clause-answer
returns-clause-answer g c = λ honest.
    let is = shorter g (goal.at.returns-clause-answer g c).After-other honest in
    (record { half = c.in-Some.found.1; body = view c.in-Some.found.0; is = is.has }, is.fewer)
