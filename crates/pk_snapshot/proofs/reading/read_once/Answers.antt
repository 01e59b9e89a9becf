-- One try after another.
use Rattle.std.proofs.Common.{◌≡◌, ℕ, List, take, ap, subst, arith, ◌∙◌}
use Rattle.std.proofs.lemmas.List.{take_all}
use Rattle.pk_snapshot.specs.Shared.{SeenAtOnce}
use Rattle.pk_manifest.proofs.Evolving.{evolves_then}
use Rattle.pk_filedisk.specs.Raw.{refusals_by}
use Rattle.pk_snapshot.specs.Counted.{interruptions_by}
use Rattle.pk_snapshot.proofs.CallLemmas.{goes_further}
use Rattle.pk_snapshot.proofs.SeenLemmas.{once_wider}
use Rattle.pk_snapshot.proofs.reading.read_once.Goals as goal

pub returns-in-Ok-clause-given : goal.returns-in-Ok-clause-given
returns-in-Ok-clause-given g c = λ h.
    let f = g.F.SharedFile in
    let out = c.read_at_once.new.out in
    let whole : take c.in-Ok.got out ≡ out = take_all c.in-Ok.got out (omega (arith, c.if-got-out.true)) in
    once_wider (f.content c.args.file.now) (f.content c.tries.file) (f.content c.read_at_once.new.self) c.args.at out (c.tries.invariant.evolves h)
    (subst (λ (l : List ℕ). SeenAtOnce (f.content c.tries.file) (f.content c.read_at_once.new.self) c.args.at l) whole (c.in-Ok.ensures.given h))

pub returns-in-Ok-clause-evolves : goal.returns-in-Ok-clause-evolves
returns-in-Ok-clause-evolves g c = λ h.
    let f = g.F.SharedFile in
    evolves_then (f.content c.args.file.now) (f.content c.tries.file) (f.content c.read_at_once.new.self) (c.tries.invariant.evolves h) (c.read_at_once.ensures.evolves h)

pub returns-in-Err-Failed-clause-evolves : goal.returns-in-Err-Failed-clause-evolves
returns-in-Err-Failed-clause-evolves g c = λ h.
    let f = g.F.SharedFile in
    evolves_then (f.content c.args.file.now) (f.content c.tries.file) (f.content c.read_at_once.new.self) (c.tries.invariant.evolves h) (c.read_at_once.ensures.evolves h)

pub tries-preserved : goal.tries-preserved
tries-preserved g c =
    let f = g.F.SharedFile in
    record {
      evolves = λ h. evolves_then (f.content c.args.file.now) (f.content c.tries.file) (f.content c.read_at_once.new.self) (c.tries.invariant.evolves h) (c.read_at_once.ensures.evolves h);
      marked = λ h. c.read_at_once.ensures.marked h ∙ c.tries.invariant.marked h;
      goes = λ h. goes_further f.failed f.interrupted _ 0 0 _ _ _ _ _ (c.tries.invariant.goes h) (c.in-Err-Interrupted.ensures.failed h) (ap refusals_by c.in-Err-Interrupted.field-0-is) (c.in-Err-Interrupted.ensures.interrupted h) (omega (arith, ap interruptions_by c.in-Err-Interrupted.field-0-is));
    }

pub returns-in-Ok-2-clause-evolves : goal.returns-in-Ok-2-clause-evolves
returns-in-Ok-2-clause-evolves g c = λ h.
    let f = g.F.SharedFile in
    evolves_then (f.content c.args.file.now) (f.content c.tries.file) (f.content c.read_at_once.new.self) (c.tries.invariant.evolves h) (c.read_at_once.ensures.evolves h)
