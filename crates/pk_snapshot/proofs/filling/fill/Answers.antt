-- One more extent is filled in.
use Rattle.std.proofs.Common.{◌∙◌, length, arith}
use Rattle.pk_disk.specs.declared.units.Extent.{Extent}
use Rattle.pk_manifest.proofs.Evolving.{evolves_then}
use Rattle.pk_snapshot.proofs.CallLemmas.{fails_then, fails_within}
use Rattle.pk_snapshot.proofs.FillLemmas.{filled_more}
use Rattle.pk_snapshot.proofs.filling.fill.Goals as goal

pub returns-in_err-fill_part-clause-evolves : goal.returns-in_err-fill_part-clause-evolves
returns-in_err-fill_part-clause-evolves g c = λ h.
    let f = g.F.SharedFile in
    evolves_then (f.content c.args.file.now) (f.content c.loop-extent.file) (f.content c.fill_part.new.file) (c.loop-extent.invariant.evolves h) (c.fill_part.ensures.evolves h)

pub loop-extent-preserved : goal.loop-extent-preserved
loop-extent-preserved g c =
    let f = g.F.SharedFile in
    let old = f.content c.args.file.now in
    let mid = f.content c.loop-extent.file in
    let new = f.content c.fill_part.new.file in
    let none : Extent = record { first = 0; units = 0; bytes = 0 } in
    record {
      given = λ h. filled_more old mid new c.args.shown.now c.loop-extent.extent-index none c.args.at c.loop-extent.out c.fill_part.new.out
          c.loop-extent-test.true c.fill_part.auto.out (c.loop-extent.invariant.evolves h) (c.fill_part.ensures.evolves h) (c.loop-extent.invariant.given h) (c.in_ok-fill_part.ensures.given h);
      evolves = λ h. evolves_then old mid new (c.loop-extent.invariant.evolves h) (c.fill_part.ensures.evolves h);
      marked = λ h. c.fill_part.ensures.marked h ∙ c.loop-extent.invariant.marked h;
      fails = λ h.
          let long = length c.fill_part.new.out in
          fails_then f.failed f.interrupted long _ _ _ _ (fails_within f.failed f.interrupted _ long _ _ _ (omega arith) (c.loop-extent.invariant.fails h)) (fails_within f.failed f.interrupted _ long _ _ _ (omega arith) (c.in_ok-fill_part.ensures.fails h));
    }
