-- The dictionary lies in the source.
use Rattle.std.proofs.Common.{length}
use Rattle.pk_dict.specs.Place.{LiesIn}
use Rattle.pk_dict.specs.Prefix.{words_to_come}
use Rattle.pk_layers.proofs.dictionaries.passed.Given as goal

abbrev pub invariant-entries : goal.invariant-entries
invariant-entries g l = LiesIn l.cursor.cursor.place (length (g.S.ByteSource.content l.source))

abbrev pub decreases-entries : goal.decreases-entries
decreases-entries g l = words_to_come l.cursor
