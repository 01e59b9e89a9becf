-- Nothing new, nothing pending and the same next number is the same collection, and back.
use Rattle.pk_state.proofs.WorkLemmas.{commit_idle, merge_idle, tidy_works}
use Rattle.pk_state.proofs.laws.what_has_work.Goals as goal

pub returns : goal.returns
returns c = record { commit = commit_idle; merge = merge_idle; tidy = tidy_works }
