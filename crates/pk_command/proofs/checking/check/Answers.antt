-- The disk that was checked is the one that shows the store.
use Rattle.std.proofs.Common.{inl, inr, refl}
use Rattle.pk_command.proofs.checking.check.Goals as goal

pub returns-clause-ended : goal.returns-clause-ended
returns-clause-ended g c = inl (
  c.into_inner.result,
  refl,
  record {
    disk = c.in-Ok.store;
    at = c.in-Ok.ensures.at;
    ended = c.check_on-status.result.1;
    check = rw c.in-Ok.ensures.told at c.check_on-status.ensures;
    handed = c.into_inner.ensures;
  },
)

pub returns-in-Err-clause-ended : goal.returns-in-Err-clause-ended
returns-in-Err-clause-ended g c = inr (c.in-Err.ensures.none, refl)
