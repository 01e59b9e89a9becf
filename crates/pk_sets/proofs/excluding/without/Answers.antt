-- What each way finds.
use Rattle.pk_sets.proofs.excluding.without.Goals as goal

pub returns-then-is_long-clause-found : goal.returns-then-is_long-clause-found
returns-then-is_long-clause-found c = c.exclude_runs.ensures.found

pub returns-then-is_long-2-clause-found : goal.returns-then-is_long-2-clause-found
returns-then-is_long-2-clause-found c = c.exclude_passing.ensures.found

pub returns-then-is_gapless-clause-found : goal.returns-then-is_gapless-clause-found
returns-then-is_gapless-clause-found c = c.exclude_gapless.ensures.found

pub returns-then-is_long-3-clause-found : goal.returns-then-is_long-3-clause-found
returns-then-is_long-3-clause-found c = c.exclude_foreseen.ensures.found

pub returns-clause-found : goal.returns-clause-found
returns-clause-found c = c.exclude_even.ensures.found
