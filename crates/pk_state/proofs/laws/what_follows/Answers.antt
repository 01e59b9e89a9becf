-- By the extents: with or without one for a new segment.
use Rattle.pk_state.proofs.FollowsLemmas.{commit_follows, merge_follows, merge_merges, tidy_follows, writers as who}
use Rattle.pk_state.proofs.laws.what_follows.Goals as goal

pub returns : goal.returns
returns c = record { writers = who; commit = commit_follows; merge = merge_follows; merged = merge_merges; tidy = tidy_follows }
