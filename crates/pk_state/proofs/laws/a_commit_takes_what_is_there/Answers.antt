-- The committed documents that are there still, and behind them the new ones, are those of now.
use Rattle.pk_state.proofs.CommitLemmas.{commit_marks}
use Rattle.pk_state.proofs.laws.a_commit_takes_what_is_there.Goals as goal

pub returns : goal.returns
returns c = commit_marks
