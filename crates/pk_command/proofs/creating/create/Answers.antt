-- The file is the disk that the store was made on.
use Rattle.std.proofs.Common.{inl, inr, refl}
use Rattle.pk_command.proofs.creating.create.Goals as goal

pub returns-in-Ok-clause-ended : goal.returns-in-Ok-clause-ended
returns-in-Ok-clause-ended g c = inl (
  c.create_on-status.result.1,
  refl,
  record {
    disk = c.in-Ok.disk;
    fresh = record { reads = c.in-Ok.ensures.reads; writes = c.in-Ok.ensures.writes };
    long = c.in-Ok.ensures.size;
    zeros = c.in-Ok.ensures.zeros;
    closed = c.in-Ok.ensures.closed;
    made = c.in-Ok.ensures.new;
    named = c.in-Ok.ensures.named;
    creation = c.create_on-status.ensures;
  },
)

pub returns-in-Err-clause-ended : goal.returns-in-Err-clause-ended
returns-in-Err-clause-ended g c = inr (
  c.in-Err.none.file,
  c.left_of.ensures,
  record {
    fault = c.in-Err.none.why;
    making = c.in-Err.ensures.fault;
    made = c.in-Err.ensures.left;
    ended = c.fail.ensures.status;
    told = rw c.file_reason.ensures at c.fail.ensures.told;
  },
  refl,
)
