-- Each try so far was outdated, and was waited after.
use Rattle.std.proofs.Common.{◌≤◌, ◌+◌, ◌*◌, min}
use Rattle.pk_disk.specs.Disk.{full_count}
use Rattle.pk_reader.specs.Held.{held_bytes}
use Rattle.pk_reader.specs.Outdated.{OutdatedTimes, wait_millis}
use Rattle.pk_reader.proofs.holding.ask_held.Given as goal

abbrev pub invariant-tries : goal.invariant-tries
invariant-tries g l =
    let f = g.F.SharedFile in
    record {
      tries : f.honest → OutdatedTimes g.F.HeldFile.asked_at l.counter (held_bytes l.fn.first f.content (λ s. f.content s.store.volume.disk.disk.file)) (held_bytes l.held f.content (λ s. f.content s.store.volume.disk.disk.file));
      waited : g.C.Waits.honest → min (g.C.Waits.waited l.initial.clock + l.counter * wait_millis) full_count ≤ g.C.Waits.waited l.clock;
    }
