-- One more part is seen, or none.
use Rattle.std.proofs.Common.{ℕ, ◌-◌, ◌≤◌, ◌∙◌, ap, length, subst, sym, arith}
use Rattle.std.proofs.lemmas.List.{places}
use borrow.Rule.Slice.PartMut.{put_mid}
use Rattle.pk_snapshot.specs.Shared.{AreSeen}
use Rattle.pk_manifest.proofs.Evolving.{evolves_then}
use Rattle.pk_filedisk.specs.Raw.{refusals_by}
use Rattle.pk_filedisk.proofs.Parts.{some_moved}
use Rattle.pk_snapshot.specs.Counted.{interruptions_by}
use Rattle.pk_snapshot.proofs.CallLemmas.{goes_further}
use Rattle.pk_snapshot.proofs.SeenLemmas.{seen_more, seen_same}
use Rattle.pk_snapshot.proofs.reading.read_whole.Goals as goal
use Rattle.pk_snapshot.proofs.reading.read_whole.Goals.{in-Ok, in-Err-Interrupted}

pub returns-in-Ok-eq0-clause-evolves : goal.returns-in-Ok-eq0-clause-evolves
returns-in-Ok-eq0-clause-evolves g c = λ h.
    let f = g.F.SharedFile in
    evolves_then (f.content c.args.file.now) (f.content c.parts.file) (f.content c.read_at.new.self) (c.parts.invariant.evolves h) (c.read_at.ensures.evolves h)

pub returns-in-Err-Failed-clause-evolves : goal.returns-in-Err-Failed-clause-evolves
returns-in-Err-Failed-clause-evolves g c = λ h.
    let f = g.F.SharedFile in
    evolves_then (f.content c.args.file.now) (f.content c.parts.file) (f.content c.read_at.new.self) (c.parts.invariant.evolves h) (c.read_at.ensures.evolves h)

pub parts-preserved : goal.parts-preserved
parts-preserved g c =
    let f = g.F.SharedFile in
    let out = c.parts.out in
    let sub = c.read_at.new.out in
    let done = c.parts.done in
    let old = f.content c.args.file.now in
    let mid = f.content c.parts.file in
    let now = f.content c.read_at.new.self in
    let at = c.args.at in
    elim c.match-read_at.branch [
      | in-Ok w ↦
          let n = w.in-Ok.got in
          let fits : n ≤ length sub = omega (arith, w.in-Ok.ensures.count, c.read_at.auto.out) in
          record {
            room = grind (arith, places, w.in-Ok.ensures.count, c.read_at.auto.out, w.done-is);
            given = λ h. subst (λ (m : ℕ). AreSeen old now at m (put_mid done (length out - done) out sub)) (sym w.done-is)
                (seen_more old mid now out sub at done n c.parts.invariant.room fits (c.parts.invariant.evolves h) (c.read_at.ensures.evolves h) (c.parts.invariant.given h) (w.in-Ok.ensures.given h));
            evolves = λ h. evolves_then old mid now (c.parts.invariant.evolves h) (c.read_at.ensures.evolves h);
            marked = λ h. c.read_at.ensures.marked h ∙ c.parts.invariant.marked h;
            goes = λ h. goes_further f.failed f.interrupted _ done _ _ _ _ _ _ (c.parts.invariant.goes h) (w.in-Ok.ensures.failed h) (some_moved _ _ w.in-Ok.got-test.1) (w.in-Ok.ensures.interrupted h) (omega (arith, w.done-is, w.in-Ok.got-test.1));
          }
      | in-Err-Interrupted w ↦
          record {
            room = grind (arith, places, c.read_at.auto.out, w.done-is);
            given = λ h. subst (λ (m : ℕ). AreSeen old now at m (put_mid done (length out - done) out sub)) (sym w.done-is)
                (seen_same old mid now out sub at done c.parts.invariant.room (c.read_at.ensures.evolves h) (c.parts.invariant.given h));
            evolves = λ h. evolves_then old mid now (c.parts.invariant.evolves h) (c.read_at.ensures.evolves h);
            marked = λ h. c.read_at.ensures.marked h ∙ c.parts.invariant.marked h;
            goes = λ h. goes_further f.failed f.interrupted _ done _ _ _ _ _ _ (c.parts.invariant.goes h) (w.in-Err-Interrupted.ensures.failed h) (ap refusals_by w.in-Err-Interrupted.field-0-is) (w.in-Err-Interrupted.ensures.interrupted h) (omega (arith, w.done-is, ap interruptions_by w.in-Err-Interrupted.field-0-is));
          }
    ]
