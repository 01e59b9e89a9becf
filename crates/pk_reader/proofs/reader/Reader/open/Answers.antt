-- The file is as old as the last opening left it; each was outdated, or the last one is told.
use Rattle.std.proofs.Common.{◌≡◌, ℕ, arith, refl, subst, sym, ◌∙◌}
use Rattle.pk_snapshot.specs.declared.fault.SnapshotFault.{SnapshotFault}
use Rattle.pk_reader.specs.Outdated.{OutdatedTimes, most_openings}
use Rattle.pk_reader.proofs.TryLemmas.{at_once, lasting_outdated, lasting_refused, once_more, shut_refused, times_low}
use Rattle.pk_reader.proofs.reader.Reader.open.Goals as goal

pub tries-init : goal.tries-init
tries-init g c = record { tries = λ h. refl; last = λ is. absurd (cc) }

pub returns-in-Ok-clause-fresh : goal.returns-in-Ok-clause-fresh
returns-in-Ok-clause-fresh g c = λ h. let low = times_low _ _ _ _ (c.tries.invariant.tries h) in omega (arith, low, c.in-Ok.ensures.fresh h)

pub returns-in-Some-clause-refused : goal.returns-in-Some-clause-refused
returns-in-Some-clause-refused g c =
    let f = g.V.File.SharedFile in
    lasting_refused f.honest f.content g.V.View.refuses c.args.file c.tries.alone c.in-Err.field-0.file c.in-Err.field-0.why c.in-Some.fault
    (λ h. times_low _ _ _ _ (c.tries.invariant.tries h)) c.in-Err.ensures.refused (sym c.lasting_fault.ensures ∙ c.in-Some.is)

pub tries-preserved : goal.tries-preserved
tries-preserved g c =
    let f = g.V.File.SharedFile in
    let why = c.in-Err.field-0.why in
    record {
      tries = λ h. once_more _ _ _ _ _ (c.tries.invariant.tries h)
          (at_once _ _ (lasting_outdated (f.content c.tries.alone) (f.content c.in-Err.field-0.file) why (sym c.lasting_fault.ensures ∙ c.in_default.is) (c.in-Err.ensures.outdated h)));
      last = λ is. record {
        before = c.tries.alone;
        later = λ h. times_low _ _ _ _ (c.tries.invariant.tries h);
        refused = subst (λ (w : SnapshotFault). g.V.View.refuses c.tries.alone c.in-Err.field-0.file w) is c.in-Err.ensures.refused;
      };
    }

pub returns-in-NotAStore-clause-refused : goal.returns-in-NotAStore-clause-refused
returns-in-NotAStore-clause-refused g c =
    let f = g.V.File.SharedFile in
    let all : c.tries.counter ≡ most_openings = omega (arith, c.tries-test.false, c.tries.auto.counter-end) in
    shut_refused f.honest f.content g.V.View.refuses c.args.file c.tries.alone (c.tries.invariant.last c.in-NotAStore.is)
    (λ h. subst (λ (n : ℕ). OutdatedTimes (λ bytes. Unit {0}) n (f.content c.args.file) (f.content c.tries.alone)) all (c.tries.invariant.tries h))

pub returns-in_default-last : goal.returns-in_default-last
returns-in_default-last g c = record { fresh = λ h. times_low _ _ _ _ (c.tries.invariant.tries h); refused = tt }
