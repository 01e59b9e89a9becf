-- What is merged into a segment is the live documents of its run, in their order.
use Rattle.pk_state.proofs.MergeLemmas.{merge_keeps, tidy_keeps}
use Rattle.pk_state.proofs.laws.a_merge_changes_no_document.Goals as goal

pub returns : goal.returns
returns c = record { merge = merge_keeps; tidy = tidy_keeps }
