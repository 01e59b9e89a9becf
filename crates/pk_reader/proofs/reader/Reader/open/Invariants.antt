-- Each opening so far was outdated, and what is known of the last one, of two gates that were seen shut.
use Rattle.std.proofs.Common.{◌≡◌}
use Rattle.pk_reader.specs.Outdated.{OutdatedTimes}
use Rattle.pk_snapshot.specs.declared.fault.SnapshotFault.TheVariants as shown
use Rattle.pk_reader.proofs.TryLemmas.{WasShut}
use Rattle.pk_reader.proofs.reader.Reader.open.Given as goal

abbrev pub invariant-tries : goal.invariant-tries
invariant-tries g l =
    let f = g.V.File.SharedFile in
    record {
      tries : f.honest → OutdatedTimes (λ bytes. Unit {0}) l.counter (f.content l.fn.file) (f.content l.alone);
      last : l.last ≡ shown.NotAStore → WasShut f.honest f.content g.V.View.refuses l.fn.file l.alone;
    }
