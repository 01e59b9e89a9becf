-- A short number, or one with the leading digits that are kept.
use Rattle.std.proofs.Common.{◌++◌, ap, ◌∙◌, refl, arith}
use Rattle.std.specs.Prelude.{decimal}
use Rattle.std.proofs.lemmas.Fmt.{length-decimal-le}
use Rattle.std.proofs.lemmas.Grind.{take-set_at}
use Rattle.pk_digits.proofs.leading.LeadingDigits.write_spaced.Goals as goal

pub returns-then-number-lt10000-clause-within : goal.returns-then-number-lt10000-clause-within
returns-then-number-lt10000-clause-within c = omega (arith, length-decimal-le 4 c.args.number (omega arith) (omega arith) (omega arith))

pub returns-then-number-lt10000-clause-written : goal.returns-then-number-lt10000-clause-written
returns-then-number-lt10000-clause-written c =
    c.write_short.ensures.written ∙ ap (λ t. t ++ decimal c.args.number) (take-set_at c.args.out.now 0 1 32 refl (omega arith))
