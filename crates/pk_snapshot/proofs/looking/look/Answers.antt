-- The generation was in force when the file was marked, so what is found stood there then.
use Rattle.std.proofs.Common.{◌≡◌, ◌*◌, ◌^◌, ◌≤◌, ◌∙◌, ◌++◌, List, ℕ, ap, subst, sym, arith}
use Rattle.std.proofs.lemmas.Result.{err_from_is_err_and}
use Rattle.pk_manifest.specs.Sound.{named}
use Rattle.pk_manifest.specs.Spelling.{view}
use Rattle.pk_snapshot.specs.declared.looking.Chosen.{Chosen}
use Rattle.pk_manifest.specs.Evolves.{Evolves, in_force}
use Rattle.pk_snapshot.specs.Latest.{IsSnapshot}
use Rattle.pk_snapshot.specs.Shared.{Confirms, IsChosen}
use Rattle.pk_snapshot.specs.Shown.{IsBegun, own_extents}
use Rattle.pk_manifest.proofs.Evolving.{evolves_here, evolves_then}
use Rattle.pk_snapshot.proofs.AnotherLemmas.{changed_since}
use Rattle.pk_snapshot.proofs.CallLemmas.{fails_then, fails_within, no_calls}
use Rattle.pk_snapshot.proofs.ConfirmLemmas.{confirmed_again}
use Rattle.pk_snapshot.proofs.FoundLemmas.{of_some}
use Rattle.pk_snapshot.proofs.LatestLemmas.{evolves_marked, evolves_thrice, shows_of, snapshot_of}
use Rattle.pk_snapshot.proofs.OrderLemmas.{covers_alike}
use Rattle.pk_snapshot.proofs.OpenLemmas.{body_refused, confirm_refused, fresh}
use Rattle.pk_snapshot.proofs.looking.look.Given as given
use Rattle.pk_snapshot.proofs.looking.look.Goals as goal
use Rattle.pk_snapshot.proofs.looking.look.Goals.{After-from, After-read_manifest}

-- a length that is asked for leaves the bytes
evolves_from : {old mid new : List ℕ} → mid ≡ old → Evolves mid new → Evolves old new
evolves_from {new = new} same evolves = subst (λ (l : List ℕ). Evolves l new) same evolves

evolves_to : {old mid new : List ℕ} → new ≡ mid → Evolves old mid → Evolves old new
evolves_to {old = old} same evolves = subst (λ (l : List ℕ). Evolves old l) (sym same) evolves

-- what was chosen, confirmed and marked, and what was there as the length was asked for again
module _ (g : given.Over) (c : goal.After-read_manifest g) (h : g.F.SharedFile.honest) where
  chosen : IsChosen (g.F.SharedFile.content c.length_of.new.file) (g.F.SharedFile.content c.choose.new.file) c.in-Some.field-0.half c.in-Some.field-0.generation
  chosen = of_some (λ (x : Chosen). IsChosen (g.F.SharedFile.content c.length_of.new.file) (g.F.SharedFile.content c.choose.new.file) x.half x.generation) c.in-Ok-choose.chosen c.in-Some.field-0 c.in-Some.is (c.in-Ok-choose.ensures.given h)

  low : c.in-Some.field-0.generation ≤ in_force (g.F.SharedFile.content c.length_of-2.new.file)
  low =
      let f = g.F.SharedFile in
      let looked = f.content c.choose.new.file in
      let again = f.content c.confirm.new.file in
      let there = confirmed_again (f.content c.length_of.new.file) looked looked again c.in-Some.field-0.half c.in-Some.field-0.generation chosen.confirms (evolves_here looked) (c.in_ok-confirm.ensures.given h) in
      let up : in_force again ≤ in_force (f.content c.mark.new.self) = (c.mark.ensures.evolves h).rises in
      omega (arith, there, up, ap in_force (c.length_of-2.ensures.bytes h))

  marks : g.F.SharedFile.marked c.read_manifest.new.file ≡ g.F.SharedFile.content c.mark.new.self
  marks = c.read_manifest.ensures.marked h ∙ c.length_of-2.ensures.marked h ∙ c.mark.ensures.marked h

  same : g.F.SharedFile.content c.length_of-2.new.file ≡ g.F.SharedFile.marked c.read_manifest.new.file
  same = c.length_of-2.ensures.bytes h ∙ sym marks

  evolved : Evolves (g.F.SharedFile.content c.args.file.now) (g.F.SharedFile.content c.read_manifest.new.file)
  evolved =
      let f = g.F.SharedFile in
      evolves_marked (f.content c.args.file.now) (f.content c.choose.new.file) (f.content c.confirm.new.file) (f.content c.mark.new.self) (f.marked c.read_manifest.new.file) (f.content c.read_manifest.new.file)
      (evolves_from (c.length_of.ensures.bytes h) (c.in-Ok-choose.ensures.evolves h)) (c.in_ok-confirm.ensures.evolves h) (c.mark.ensures.evolves h) marks (g.met.F.SharedFile.marked_before c.read_manifest.new.file h)

  rises : IsBegun (g.F.SharedFile.content c.length_of-2.new.file) c.in-Some.field-0.half c.in-Some.field-0.generation → in_force (g.F.SharedFile.content c.args.file.now) ≤ c.in-Some.field-0.generation
  rises begun =
      let f = g.F.SharedFile in
      let before = f.content c.length_of.new.file in
      let looked = f.content c.choose.new.file in
      let start = f.content c.length_of-2.new.file in
      let after : Evolves looked start = evolves_to (c.length_of-2.ensures.bytes h) (evolves_then looked (f.content c.confirm.new.file) (f.content c.mark.new.self) (c.in_ok-confirm.ensures.evolves h) (c.mark.ensures.evolves h)) in
      let whole : Evolves before start = evolves_then before looked start (c.in-Ok-choose.ensures.evolves h) after in
      let rose = fresh before looked start c.in-Some.field-0.half c.in-Some.field-0.generation chosen after whole begun.gate begun.stamp_is in
      omega (arith, rose, ap in_force (c.length_of.ensures.bytes h))

-- what is shown of it
snapshot : (g : given.Over) (c : goal.After-from g) → g.F.SharedFile.honest → c.in-Some.field-0.generation ≤ in_force (g.F.SharedFile.content c.length_of-2.new.file)
    → g.F.SharedFile.content c.length_of-2.new.file ≡ g.F.SharedFile.marked c.read_manifest.new.file
    → IsSnapshot (g.F.SharedFile.marked c.read_manifest.new.file) c.in-Some.field-0.half c.in-Some.field-0.generation (512 * c.from.result) c.in-Ok-of.shown.extents.items
snapshot g c h there is =
    let half = c.in-Some.field-0.half in
    let generation = c.in-Some.field-0.generation in
    let body = view c.in_ok-manifest.manifest in
    let shown = c.in-Ok-of.shown.extents.items in
    let len = 512 * c.from.result in
    let long : len ≡ 512 * c.in_ok-manifest.manifest.units = ap (λ (n : ℕ). 512 * n) c.from.ensures in
    subst (λ (l : List ℕ). IsSnapshot l half generation len shown) is
    (snapshot_of (g.F.SharedFile.content c.length_of-2.new.file) half generation body len shown (c.in_ok-manifest.ensures.found h there) long (covers_alike (named body ++ own_extents half) shown c.in-Ok-of.ensures))

pub returns-clause-fresh : goal.returns-clause-fresh
returns-clause-fresh g c = λ h.
    let w = (goal.at.returns-clause-fresh g c).After-read_manifest in
    let found = c.in_ok-manifest.ensures.found h (low g w h) in
    rises g w h (record { gate = found.gate; stamp_is = found.stamp_is })

pub returns-clause-shows : goal.returns-clause-shows
returns-clause-shows g c = λ h.
    let at = goal.at.returns-clause-shows g c in
    shows_of _ _ _ _ _ (snapshot g at.After-from h (low g at.After-read_manifest h) (same g at.After-read_manifest h))

pub returns-clause-snapshot : goal.returns-clause-snapshot
returns-clause-snapshot g c = λ h.
    let at = goal.at.returns-clause-snapshot g c in
    snapshot g at.After-from h (low g at.After-read_manifest h) (same g at.After-read_manifest h)

pub returns-in_err-confirm-clause-refused : goal.returns-in_err-confirm-clause-refused
returns-in_err-confirm-clause-refused g c = λ h.
    let f = g.F.SharedFile in
    let p = err_from_is_err_and c.from_residual.result c.from_residual.ensures.1 in
    rw (p.1, p.2) (confirm_refused (f.content c.args.file.now) (f.content c.confirm.new.file) (f.marked c.confirm.new.file) c.in_err-confirm.field-0.0 c.in_err-confirm.ensures.fault)

pub returns-in_err-manifest-clause-refused : goal.returns-in_err-manifest-clause-refused
returns-in_err-manifest-clause-refused g c = λ h.
    let f = g.F.SharedFile in
    let w = (goal.at.returns-in_err-manifest-clause-refused g c).After-read_manifest in
    let p = err_from_is_err_and c.from_residual-in_err-manifest.result c.from_residual-in_err-manifest.ensures.1 in
    rw (p.1, p.2) (body_refused (f.content c.args.file.now) (f.content c.read_manifest.new.file) (f.content c.length_of-2.new.file) (f.marked c.read_manifest.new.file) c.in-Some.field-0.half c.in-Some.field-0.generation
    c.in_err-manifest.field-0.0 (same g w h) (rises g w h) (c.in_err-manifest.ensures.refused h (low g w h)))

pub returns-in_err-confirm-clause-evolves : goal.returns-in_err-confirm-clause-evolves
returns-in_err-confirm-clause-evolves g c = λ h. evolves_then _ _ _ (evolves_from (c.length_of.ensures.bytes h) (c.in-Ok-choose.ensures.evolves h)) (c.in_err-confirm.ensures.evolves h)

pub returns-in_default-length_of-clause-evolves : goal.returns-in_default-length_of-clause-evolves
returns-in_default-length_of-clause-evolves g c = λ h.
    evolves_to (c.length_of-2.ensures.bytes h)
    (evolves_thrice _ _ _ _ (evolves_from (c.length_of.ensures.bytes h) (c.in-Ok-choose.ensures.evolves h)) (c.in_ok-confirm.ensures.evolves h) (c.mark.ensures.evolves h))

pub returns-in_err-manifest-clause-evolves : goal.returns-in_err-manifest-clause-evolves
returns-in_err-manifest-clause-evolves g c = evolved g (goal.at.returns-in_err-manifest-clause-evolves g c).After-read_manifest

pub returns-in_default-of-clause-evolves : goal.returns-in_default-of-clause-evolves
returns-in_default-of-clause-evolves g c = evolved g (goal.at.returns-in_default-of-clause-evolves g c).After-read_manifest

pub returns-clause-evolves : goal.returns-clause-evolves
returns-clause-evolves g c = evolved g (goal.at.returns-clause-evolves g c).After-read_manifest

pub returns-in_err-manifest-clause-fails : goal.returns-in_err-manifest-clause-fails
returns-in_err-manifest-clause-fails g c = λ h.
    let f = g.F.SharedFile in
    let many = 2 ^ 32 in
    let p = err_from_is_err_and c.from_residual-in_err-manifest.result c.from_residual-in_err-manifest.ensures.1 in
    let first = fails_then f.failed f.interrupted 0 _ _ _ _ (c.in-Ok.ensures.fails h) (fails_then f.failed f.interrupted 0 _ _ _ _ (c.in-Ok-choose.ensures.fails h) (c.in_ok-confirm.ensures.fails h)) in
    let second = fails_then f.failed f.interrupted 0 _ _ _ _ first (no_calls f.failed f.interrupted 0 _ _ (c.mark.ensures.failed h) (c.mark.ensures.interrupted h)) in
    let third = fails_then f.failed f.interrupted 0 _ _ _ _ second (c.in-Ok-length_of.ensures.fails h) in
    rw (p.1, p.2) (fails_then f.failed f.interrupted many _ _ _ _ (fails_within f.failed f.interrupted 0 many _ _ _ (omega arith) third) (c.in_err-manifest.ensures.fails h))

pub returns-in_err-confirm-clause-changed : goal.returns-in_err-confirm-clause-changed
returns-in_err-confirm-clause-changed g c = λ h.
    let f = g.F.SharedFile in
    let looked = f.content c.choose.new.file in
    let half = c.in-Some.field-0.half in
    let generation = c.in-Some.field-0.generation in
    let is_chosen = of_some (λ (x : Chosen). IsChosen (f.content c.length_of.new.file) looked x.half x.generation) c.in-Ok-choose.chosen c.in-Some.field-0 c.in-Some.is (c.in-Ok-choose.ensures.given h) in
    let confirmed = subst (λ (l : List ℕ). Confirms l looked half generation) (c.length_of.ensures.bytes h) is_chosen.confirms in
    let p = err_from_is_err_and c.from_residual.result c.from_residual.ensures.1 in
    rw (p.1, p.2) (λ is. changed_since (f.content c.args.file.now) looked looked (f.content c.confirm.new.file) half generation confirmed (evolves_here looked) (c.in_err-confirm.ensures.changed h is))

pub returns-in_err-manifest-clause-changed : goal.returns-in_err-manifest-clause-changed
returns-in_err-manifest-clause-changed g c = λ h.
    let f = g.F.SharedFile in
    let w = (goal.at.returns-in_err-manifest-clause-changed g c).After-read_manifest in
    let looked = f.content c.choose.new.file in
    let half = c.in-Some.field-0.half in
    let generation = c.in-Some.field-0.generation in
    let confirmed = subst (λ (l : List ℕ). Confirms l looked half generation) (c.length_of.ensures.bytes h) (chosen g w h).confirms in
    let between = evolves_to (c.length_of-2.ensures.bytes h) (evolves_then looked (f.content c.confirm.new.file) (f.content c.mark.new.self) (c.in_ok-confirm.ensures.evolves h) (c.mark.ensures.evolves h)) in
    let p = err_from_is_err_and c.from_residual-in_err-manifest.result c.from_residual-in_err-manifest.ensures.1 in
    rw (p.1, p.2) (λ is. changed_since (f.content c.args.file.now) looked (f.content c.length_of-2.new.file) (f.content c.read_manifest.new.file) half generation confirmed between (c.in_err-manifest.ensures.changed h is))
