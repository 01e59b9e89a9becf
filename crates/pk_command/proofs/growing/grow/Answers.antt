-- The file is the one whose disk was opened.
use Rattle.std.proofs.Common.{inl, inr, refl}
use Rattle.pk_command.proofs.growing.grow.Goals as goal

pub returns-in-Ok-clause-ended : goal.returns-in-Ok-clause-ended
returns-in-Ok-clause-ended g c = inl (
  c.grow_on-status.result.1,
  refl,
  record {
    disk = c.in-Ok.disk;
    found = record {
      fresh = record { reads = c.in-Ok.ensures.reads; writes = c.in-Ok.ensures.writes };
      long = c.in-Ok.ensures.size;
      found = λ h. record { bytes = c.in-Ok.ensures.holds h; place = c.in-Ok.ensures.path h };
      closed = c.in-Ok.ensures.closed;
    };
    growth = c.grow_on-status.ensures;
  },
)

pub returns-in-Err-clause-ended : goal.returns-in-Err-clause-ended
returns-in-Err-clause-ended g c = inr (
  c.in-Err.none.file,
  c.left_of.ensures,
  record {
    fault = c.in-Err.none.why;
    opening = c.in-Err.ensures.fault;
    found = c.in-Err.ensures.left;
    ended = c.fail.ensures.status;
    told = rw c.file_reason.ensures at c.fail.ensures.told;
  },
  refl,
)
