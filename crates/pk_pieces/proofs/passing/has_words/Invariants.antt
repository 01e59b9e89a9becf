-- So many words lie before the place.
use Rattle.std.proofs.Common.{◌≡◌, ◌≤◌, ◌+◌, length}
use Rattle.pk_pieces.specs.Pieces.{words_from}
use Rattle.pk_pieces.proofs.passing.has_words.Given as goal

abbrev pub invariant-loop-word : goal.invariant-loop-word
invariant-loop-word l = record {
  low : l.from ≤ l.at;
  high : l.at ≤ l.to;
  many : length (words_from l.bytes l.from) ≡ l._word + length (words_from l.bytes l.at);
}
