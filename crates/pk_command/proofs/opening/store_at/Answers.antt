-- The disk is the one that was opened, and shows the store that was found on it.
use Rattle.std.proofs.Common.{inl, inr, refl, rules}
use Rattle.pk_command.proofs.opening.store_at.Goals as goal

pub returns-in-Ok-store_on-clause-at : goal.returns-in-Ok-store_on-clause-at
returns-in-Ok-store_on-clause-at g c = record {
  file = c.in-Ok.file;
  found = record {
    fresh = record { reads = c.in-Ok.ensures.reads; writes = c.in-Ok.ensures.writes };
    long = c.in-Ok.ensures.size;
    found = λ h. record { bytes = c.in-Ok.ensures.holds h; place = c.in-Ok.ensures.path h };
    closed = c.in-Ok.ensures.closed;
  };
  shown = record {
    fresh = search rules;
    long = c.in-Ok-store_on.ensures.size;
    shown = c.in-Ok-store_on.ensures.content;
    holds = c.in-Ok-store_on.ensures.holds;
    closed = λ h. c.in-Ok-store_on.ensures.closed h (c.in-Ok.ensures.closed h);
    read = c.in-Ok-store_on.ensures.below;
  };
}

pub returns-in-Err-clause-none : goal.returns-in-Err-clause-none
returns-in-Err-clause-none g c = inl (
  c.in-Err.none.file,
  c.left_of.ensures,
  record {
    fault = c.in-Err.none.why;
    opening = c.in-Err.ensures.fault;
    found = c.in-Err.ensures.left;
    ended = refl;
    told = rw c.file_reason.ensures at c.fail.ensures.told;
  },
)

pub returns-in-Err-store_on-clause-none : goal.returns-in-Err-store_on-clause-none
returns-in-Err-store_on-clause-none g c = inr (
  c.in-Err-store_on.file,
  refl,
  record {
    file = c.in-Ok.file;
    found = record {
      fresh = record { reads = c.in-Ok.ensures.reads; writes = c.in-Ok.ensures.writes };
      long = c.in-Ok.ensures.size;
      found = λ h. record { bytes = c.in-Ok.ensures.holds h; place = c.in-Ok.ensures.path h };
      closed = c.in-Ok.ensures.closed;
    };
    read = c.in-Err-store_on.ensures.left;
    failing = c.in-Err-store_on.ensures.failed;
    ended = refl;
    told = c.fail-in-Err-store_on.ensures.told;
  },
)
