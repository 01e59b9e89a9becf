-- The disk that shows the store, with its pages kept, is the one that the store was opened on.
use Rattle.std.proofs.Common.{inl, inr, refl, sym}
use Rattle.pk_command.proofs.running.run.Goals as goal

pub returns-clause-ended : goal.returns-clause-ended
returns-clause-ended g c =
    let shows = rw (sym c.new-disk.ensures.disk) at c.in-Ok.ensures.at in
    inl (
      c.into_inner-2.result,
      refl,
      record {
        disk = c.new-disk.result;
        at = record {
          file = shows.file;
          found = shows.found;
          shown = record {
            fresh = record { reads = shows.shown.fresh.reads; writes = shows.shown.fresh.writes };
            long = shows.shown.long;
            shown = shows.shown.shown;
            holds = shows.shown.holds;
            closed = shows.shown.closed;
            read = shows.shown.read;
          };
        };
        ended = c.run_on-status.result.1;
        session = rw c.in-Ok.ensures.told at c.run_on-status.ensures;
        handed = rw c.into_inner.ensures at c.into_inner-2.ensures;
      },
    )

pub returns-in-Err-clause-ended : goal.returns-in-Err-clause-ended
returns-in-Err-clause-ended g c = inr (c.in-Err.ensures.none, refl, refl)
