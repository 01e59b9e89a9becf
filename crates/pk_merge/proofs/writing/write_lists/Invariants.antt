-- The lists of the terms that were passed are given, and the others are to come.
use Rattle.std.proofs.Common.{◌≡◌, ◌≤◌, ◌+◌, List, ℕ, [], Ok, length}
use Rattle.std.specs.Prelude.{All, Result}
use Rattle.pk_join.specs.declared.input.MergeInput.{MergeInput}
use Rattle.pk_join.specs.Inputs.{SpellsInputs}
use Rattle.pk_join.specs.Rooms.{WalkIsRoomy}
use Rattle.pk_join.specs.Walk.{HasCome, IsSameWalk, words_to_come}
use Rattle.pk_join.specs.Whole.{WalksWhole}
use Rattle.pk_model.specs.Terms.{terms_of}
use Rattle.pk_posting.specs.Spelling.{spelling as list_spelling}
use Rattle.pk_replace.specs.declared.stream.StreamFault.{StreamFault}
use Rattle.pk_segment.specs.Indexed.{list_with, lists_of, postings}
use Rattle.pk_merge.specs.Apart.{WalksApart}
use Rattle.pk_merge.specs.Output.{AreGiven, IsGiven, LiesApart}
use Rattle.pk_state.specs.Committed.{Stored, live_in}
use Rattle.pk_merge.proofs.writing.write_lists.Given as goal

abbrev pub decreases-words : goal.decreases-words
decreases-words g l = words_to_come l.walk

-- an answer without a fault
abbrev went_well : Result ℕ StreamFault
went_well = Ok 0

abbrev pub invariant-words : goal.invariant-words
invariant-words g l =
    let disk = g.D.Disk in
    record {
      given : IsGiven disk l.fn.disk l.disk l.fn.output l.output went_well;
      same : IsSameWalk l.fn.walk l.walk;
      whole : WalksWhole (disk.honest × WalksApart l.fn.output.start l.fn.output.end l.fn.walk)
          (disk.content l.fn.disk) l.fn.walk l.walk;
      encoded : length l.encoded ≡ length l.fn.encoded;
      rooms : (bytes : List ℕ) → WalkIsRoomy bytes l.fn.walk → WalkIsRoomy bytes l.walk;
      come : disk.honest → (inputs : List MergeInput) (stored : List Stored)
          → HasCome (disk.content l.fn.disk) inputs stored l.fn.walk [] (terms_of (live_in stored))
          → ((b : List ℕ) → SpellsInputs b inputs stored → WalkIsRoomy b l.fn.walk)
          → All (LiesApart l.fn.output.start l.fn.output.end) inputs
          → All (λ w. length (list_spelling (list_with w (live_in stored))) ≤ length l.fn.encoded)
          (terms_of (live_in stored))
          → l.fn.output.at + l.fn.output.filled + length (postings (live_in stored)) ≤ l.fn.output.end
          → (xs : List (List ℕ)) × (ys : List (List ℕ)) × HasCome (disk.content l.disk) inputs stored l.walk
          xs ys × AreGiven disk l.fn.disk l.disk l.fn.output l.output (lists_of xs (live_in stored))
          went_well;
    }
