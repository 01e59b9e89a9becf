-- The words before the place have the number; those from it on are left.
use Rattle.std.proofs.Common.{◌≡◌, ◌-◌, ◌≤◌, ◌++◌, List, ℕ, map, length}
use Rattle.pk_model.specs.Words.{folded, words_of}
use Rattle.pk_pieces.specs.Pieces.{words_from}
use Rattle.pk_index.specs.Lists.{Notes}
use Rattle.pk_index.proofs.adding.note_ascii.Given as goal

abbrev pub invariant-words : goal.invariant-words
invariant-words l = record {
  within : l.at ≤ length l.bytes;
  noted : (done : List (List ℕ)) × (words_of l.fn.text ≡ done ++ map folded (words_from l.bytes l.at)) × Notes done l.number l.fn.lists l.lists;
}

abbrev pub decreases-words : goal.decreases-words
decreases-words l = length l.bytes - l.at
