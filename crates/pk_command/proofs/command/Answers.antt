-- What came of the command that the words ask for is what came of the words.
use Rattle.std.proofs.Common.{inl, inr, map, refl, string_bytes, subst}
use Rattle.pk_arguments.specs.CommandLine.{WordsAsk}
use Rattle.pk_arguments.specs.Sizes.{HasSize}
use Rattle.pk_arguments.specs.declared.asked.Asked.TheVariants.{Check, Create, Grow, Read, Run}
use Rattle.pk_command.proofs.command.Goals as goal

pub returns-in-Ok-Run-clause-ended : goal.returns-in-Ok-Run-clause-ended
returns-in-Ok-Run-clause-ended g c = inl (
  Run c.in-Ok-Run.path,
  subst (WordsAsk (map string_bytes c.args.words.now)) c.in-Ok-Run.field-0-is c.in-Ok-Run.ensures.asked,
  subst HasSize c.in-Ok-Run.field-0-is c.in-Ok-Run.ensures.size,
  c.run.ensures.ended,
)

pub returns-in-Ok-Read-clause-ended : goal.returns-in-Ok-Read-clause-ended
returns-in-Ok-Read-clause-ended g c = inl (
  Read c.in-Ok-Read.path,
  subst (WordsAsk (map string_bytes c.args.words.now)) c.in-Ok-Read.field-0-is c.in-Ok-Read.ensures.asked,
  subst HasSize c.in-Ok-Read.field-0-is c.in-Ok-Read.ensures.size,
  (refl, c.read-status.ensures),
)

pub returns-in-Ok-Create-clause-ended : goal.returns-in-Ok-Create-clause-ended
returns-in-Ok-Create-clause-ended g c = inl (
  Create c.in-Ok-Create.path c.in-Ok-Create.units,
  subst (WordsAsk (map string_bytes c.args.words.now)) c.in-Ok-Create.field-0-is c.in-Ok-Create.ensures.asked,
  subst HasSize c.in-Ok-Create.field-0-is c.in-Ok-Create.ensures.size,
  (refl, c.create.ensures.ended),
)

pub returns-in-Ok-Check-clause-ended : goal.returns-in-Ok-Check-clause-ended
returns-in-Ok-Check-clause-ended g c = inl (
  Check c.in-Ok-Check.path,
  subst (WordsAsk (map string_bytes c.args.words.now)) c.in-Ok-Check.field-0-is c.in-Ok-Check.ensures.asked,
  subst HasSize c.in-Ok-Check.field-0-is c.in-Ok-Check.ensures.size,
  (refl, c.check.ensures.ended),
)

pub returns-in-Ok-Grow-clause-ended : goal.returns-in-Ok-Grow-clause-ended
returns-in-Ok-Grow-clause-ended g c = inl (
  Grow c.in-Ok-Grow.path c.in-Ok-Grow.units,
  subst (WordsAsk (map string_bytes c.args.words.now)) c.in-Ok-Grow.field-0-is c.in-Ok-Grow.ensures.asked,
  subst HasSize c.in-Ok-Grow.field-0-is c.in-Ok-Grow.ensures.size,
  (refl, c.grow.ensures.ended),
)

pub returns-in-Err-clause-ended : goal.returns-in-Err-clause-ended
returns-in-Err-clause-ended g c = inr (refl, (refl, (c.in-Err.unasked, c.in-Err.ensures.none, c.refuse.ensures)))
