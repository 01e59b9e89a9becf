-- Each try so far was outdated.
use Rattle.pk_reader.specs.Held.{held_bytes}
use Rattle.pk_reader.specs.Outdated.{OutdatedTimes}
use Rattle.pk_reader.proofs.asking.ask.Given as goal

abbrev pub invariant-tries : goal.invariant-tries
invariant-tries g l =
    let f = g.F.SharedFile in
    f.honest → OutdatedTimes (λ bytes. Unit {0}) l.counter (held_bytes l.fn.first f.content (λ s. f.content s.store.volume.disk.disk.file)) (held_bytes l.held f.content (λ s. f.content s.store.volume.disk.disk.file))
