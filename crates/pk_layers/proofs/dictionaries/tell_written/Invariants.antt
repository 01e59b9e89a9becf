-- The items so far were added.
use Rattle.std.proofs.Common.{List}
use Rattle.pk_dict.specs.Dictionary.{Item}
use Rattle.pk_dict.specs.Writer.{HasAdded}
use Rattle.pk_layers.proofs.dictionaries.tell_written.Given as goal

abbrev pub invariant-loop-word : goal.invariant-loop-word
invariant-loop-word l = (es : List Item) × HasAdded l.writer es
