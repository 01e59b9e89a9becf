-- Each image has the old body with its claims or the new one with its own; after Ok the new one is held, after a read that failed the old one.
use Rattle.std.proofs.Common.{List, ℕ, subst}
use Rattle.pk_replace.specs.Evolving.{EvolvesBy, IsBeside}
use Rattle.pk_replace.proofs.CourseLemmas.{on_kept_weaker}
use Rattle.pk_replace.proofs.HeldLemmas.{kept_held, kept_images, replaced, replaced_held}
use Rattle.pk_manifest.proofs.Course.{ok_both}
use Rattle.pk_replace.proofs.replacing.replace_with.Goals as goal

pub returns-clause-any_moment : goal.returns-clause-any_moment
returns-clause-any_moment g c = λ honest old_body claims new_claims held next.
    replaced g.D.Disk c.args.spare (g.W.WritesExtent.touches c.args.writer) c.args.disk.now c.gate_open.new.disk (c.gate_open.ensures.read honest) old_body claims held c.install.new.disk
    c.args.body.now (g.W.WritesExtent.promises c.args.writer) new_claims next (c.install.ensures.any_moment honest)

pub returns-clause-done : goal.returns-clause-done
returns-clause-done g c = λ honest old_body claims new_claims held next.
    ok_both c.install.result _ _ _ (replaced_held g.D.Disk c.args.spare (g.W.WritesExtent.touches c.args.writer) c.args.disk.now c.gate_open.new.disk (c.gate_open.ensures.read honest) old_body claims held c.install.new.disk
    c.args.body.now (g.W.WritesExtent.promises c.args.writer) new_claims next) (c.install.ensures.done honest) (c.install.ensures.closed honest)

pub returns-clause-kept : goal.returns-clause-kept
returns-clause-kept g c = λ honest old_body claims held out.
    on_kept_weaker c.install.result (kept_held g.D.Disk c.args.spare (g.W.WritesExtent.touches c.args.writer) c.args.disk.now c.gate_open.new.disk (c.gate_open.ensures.read honest) old_body claims held c.install.new.disk out) (c.install.ensures.kept honest)

pub returns-clause-still : goal.returns-clause-still
returns-clause-still g c = λ honest old_body claims held out.
    on_kept_weaker c.install.result (kept_images g.D.Disk c.args.spare (g.W.WritesExtent.touches c.args.writer) c.args.disk.now c.gate_open.new.disk (c.gate_open.ensures.read honest) old_body claims held c.install.new.disk out) (c.install.ensures.still honest)

pub returns-clause-evolves : goal.returns-clause-evolves
returns-clause-evolves g c = λ honest.
    subst (λ (l : List ℕ). IsBeside l c.args.spare (g.W.WritesExtent.touches c.args.writer) c.args.body.now → EvolvesBy c.install.result l (g.D.Disk.content c.install.new.disk) c.args.spare c.args.body.now)
    (c.gate_open.ensures.read honest).bytes (c.install.ensures.evolves honest)
