-- The terms that were passed are planned, and the others are to come.
use Rattle.std.proofs.Common.{◌≡◌, List, Ok, ℕ, []}
use Rattle.pk_join.specs.declared.input.MergeInput.{MergeInput}
use Rattle.pk_join.specs.Walk.{HasCome, IsSameWalk, words_to_come}
use Rattle.pk_join.specs.Whole.{WalksWhole}
use Rattle.pk_model.specs.Terms.{terms_of}
use Rattle.pk_merge.specs.declared.lists.TheConstants.{MOST_KEPT_LISTS}
use Rattle.pk_merge.specs.Merging.{CountsMerge}
use Rattle.pk_segment.specs.OnlyRead.{ReadsDisk}
use Rattle.pk_segment.specs.Planning.{HasEntries, HasWords}
use Rattle.pk_state.specs.Committed.{Stored, live_in}
use Rattle.pk_merge.proofs.planning.plan_words.Given as goal

abbrev pub decreases-words : goal.decreases-words
decreases-words g l = words_to_come l.walk

abbrev pub invariant-words : goal.invariant-words
invariant-words g l =
    let disk = g.D.Disk in
    record {
      left : ReadsDisk disk CountsMerge (Ok (tt {0})) l.fn.disk l.disk;
      same : IsSameWalk l.fn.walk l.walk;
      whole : WalksWhole disk.honest (disk.content l.fn.disk) l.fn.walk l.walk;
      entries : HasEntries l.index;
      most_kept : l.index.most_kept ≡ MOST_KEPT_LISTS;
      come : disk.honest → (inputs : List MergeInput) (stored : List Stored)
          → HasCome (disk.content l.fn.disk) inputs stored l.fn.walk [] (terms_of (live_in stored))
          → (xs : List (List ℕ)) × (ys : List (List ℕ)) × HasCome (disk.content l.disk) inputs stored l.walk
          xs ys × HasWords l.index xs (live_in stored);
    }
