-- A character begins where a text does.
use Rattle.std.proofs.lemmas.Str.{IsCharBoundary-start}
use Rattle.pk_layers.proofs.texts.first_end.Goals as goal

pub part_end-requires-clause-boundary : goal.part_end-requires-clause-boundary
part_end-requires-clause-boundary g = IsCharBoundary-start g.args.text.now g.utf8.text
