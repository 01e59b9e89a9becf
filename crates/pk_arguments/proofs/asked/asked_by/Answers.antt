-- The subcommand's name and its matches are those of the parse.
use Rattle.std.proofs.Common.{codes, refl, sym, subst, ◌∙◌}
use Rattle.clap.proofs.WalkLemmas.{first_value-rows, one_text-rows}
use Rattle.clap.specs.Words.{found_of, rows_of}
use Rattle.pk_arguments.proofs.CommandLineLemmas.{create_is_no_other, grow_is_no_other, named_rows, no_path, no_units}
use Rattle.pk_arguments.specs.CommandLine.{Asks}
use Rattle.pk_arguments.specs.declared.asked.Asked.TheVariants.{Check, Create, Grow, Read, Run}
use Rattle.pk_arguments.proofs.asked.asked_by.Goals as goal

pub returns-in_ok-units_of-in-Some-create-default-clause-asked :
    goal.returns-in_ok-units_of-in-Some-create-default-clause-asked
returns-in_ok-units_of-in-Some-create-default-clause-asked c =
    let read = c.in_ok-units_of-in-Some-create-default.ensures.read in
    subst (λ met. Asks met (Create c.in_ok-get_str-in-Some-create-default.field-0 c.in_ok-units_of-in-Some-create-default.field-0)) (sym (named_rows _ _ _ _ _ c.in-Some-create-default.ensures.name c.in-Some-create-default.ensures.rows))
    (c.in-Some-create-default.is-create, sym (first_value-rows (found_of c.in-Some-create-default.given.now) (codes "PATH")) ∙ sym c.in_ok-get_str-in-Some-create-default.ensures, (read.0, sym (one_text-rows (found_of c.in-Some-create-default.given.now) (codes "units")) ∙ read.1, read.2))

pub returns-in_ok-units_of-in-Some-grow-default-clause-asked :
    goal.returns-in_ok-units_of-in-Some-grow-default-clause-asked
returns-in_ok-units_of-in-Some-grow-default-clause-asked c =
    let read = c.in_ok-units_of-in-Some-grow-default.ensures.read in
    subst (λ met. Asks met (Grow c.in_ok-get_str-in-Some-grow-default.field-0 c.in_ok-units_of-in-Some-grow-default.field-0)) (sym (named_rows _ _ _ _ _ c.in-Some-grow-default.ensures.name c.in-Some-grow-default.ensures.rows))
    (c.in-Some-grow-default.is-grow, sym (first_value-rows (found_of c.in-Some-grow-default.given.now) (codes "PATH")) ∙ sym c.in_ok-get_str-in-Some-grow-default.ensures, (read.0, sym (one_text-rows (found_of c.in-Some-grow-default.given.now) (codes "units")) ∙ read.1, read.2))

pub returns-in_ok-get_str-in-Some-run-default-clause-asked :
    goal.returns-in_ok-get_str-in-Some-run-default-clause-asked
returns-in_ok-get_str-in-Some-run-default-clause-asked c =
    subst (λ met. Asks met (Run c.in_ok-get_str-in-Some-run-default.field-0)) (sym (named_rows _ _ _ _ _ c.in-Some-run-default.ensures.name c.in-Some-run-default.ensures.rows))
    (c.in-Some-run-default.is-run, sym (first_value-rows (found_of c.in-Some-run-default.given.now) (codes "PATH")) ∙ sym c.in_ok-get_str-in-Some-run-default.ensures)

pub returns-in_ok-get_str-in-Some-read-default-clause-asked :
    goal.returns-in_ok-get_str-in-Some-read-default-clause-asked
returns-in_ok-get_str-in-Some-read-default-clause-asked c =
    subst (λ met. Asks met (Read c.in_ok-get_str-in-Some-read-default.field-0)) (sym (named_rows _ _ _ _ _ c.in-Some-read-default.ensures.name c.in-Some-read-default.ensures.rows))
    (c.in-Some-read-default.is-read, sym (first_value-rows (found_of c.in-Some-read-default.given.now) (codes "PATH")) ∙ sym c.in_ok-get_str-in-Some-read-default.ensures)

pub returns-in_ok-get_str-in-Some-check-default-clause-asked :
    goal.returns-in_ok-get_str-in-Some-check-default-clause-asked
returns-in_ok-get_str-in-Some-check-default-clause-asked c =
    subst (λ met. Asks met (Check c.in_ok-get_str-in-Some-check-default.field-0)) (sym (named_rows _ _ _ _ _ c.in-Some-check-default.ensures.name c.in-Some-check-default.ensures.rows))
    (c.in-Some-check-default.is-check, sym (first_value-rows (found_of c.in-Some-check-default.given.now) (codes "PATH")) ∙ sym c.in_ok-get_str-in-Some-check-default.ensures)

pub returns-in_err-get_str-in-Some-create-default-clause-none : goal.returns-in_err-get_str-in-Some-create-default-clause-none
returns-in_err-get_str-in-Some-create-default-clause-none c = λ none asked size asks.
    no_path asked _ (rows_of (found_of c.in-Some-create-default.given.now))
    (sym (first_value-rows (found_of c.in-Some-create-default.given.now) (codes "PATH")) ∙ sym c.in_err-get_str-in-Some-create-default.ensures)
    (subst (λ met. Asks met asked) (named_rows _ _ _ _ _ c.in-Some-create-default.ensures.name c.in-Some-create-default.ensures.rows) asks)

pub returns-in_err-get_str-in-Some-grow-default-clause-none : goal.returns-in_err-get_str-in-Some-grow-default-clause-none
returns-in_err-get_str-in-Some-grow-default-clause-none c = λ none asked size asks.
    no_path asked _ (rows_of (found_of c.in-Some-grow-default.given.now))
    (sym (first_value-rows (found_of c.in-Some-grow-default.given.now) (codes "PATH")) ∙ sym c.in_err-get_str-in-Some-grow-default.ensures)
    (subst (λ met. Asks met asked) (named_rows _ _ _ _ _ c.in-Some-grow-default.ensures.name c.in-Some-grow-default.ensures.rows) asks)

pub returns-in_err-units_of-in-Some-create-default-clause-none : goal.returns-in_err-units_of-in-Some-create-default-clause-none
returns-in_err-units_of-in-Some-create-default-clause-none c = λ none asked size asks.
    no_units asked _ _ (rows_of (found_of c.in-Some-create-default.given.now)) c.in-Some-create-default.is-create create_is_no_other
    (λ text units met. c.in_err-units_of-in-Some-create-default.ensures.none refl text units (one_text-rows (found_of c.in-Some-create-default.given.now) (codes "units") ∙ met))
    size
    (subst (λ met. Asks met asked) (named_rows _ _ _ _ _ c.in-Some-create-default.ensures.name c.in-Some-create-default.ensures.rows) asks)

pub returns-in_err-units_of-in-Some-grow-default-clause-none : goal.returns-in_err-units_of-in-Some-grow-default-clause-none
returns-in_err-units_of-in-Some-grow-default-clause-none c = λ none asked size asks.
    no_units asked _ _ (rows_of (found_of c.in-Some-grow-default.given.now)) c.in-Some-grow-default.is-grow grow_is_no_other
    (λ text units met. c.in_err-units_of-in-Some-grow-default.ensures.none refl text units (one_text-rows (found_of c.in-Some-grow-default.given.now) (codes "units") ∙ met))
    size
    (subst (λ met. Asks met asked) (named_rows _ _ _ _ _ c.in-Some-grow-default.ensures.name c.in-Some-grow-default.ensures.rows) asks)

pub returns-in_err-get_str-in-Some-run-default-clause-none : goal.returns-in_err-get_str-in-Some-run-default-clause-none
returns-in_err-get_str-in-Some-run-default-clause-none c = λ none asked size asks.
    no_path asked _ (rows_of (found_of c.in-Some-run-default.given.now))
    (sym (first_value-rows (found_of c.in-Some-run-default.given.now) (codes "PATH")) ∙ sym c.in_err-get_str-in-Some-run-default.ensures)
    (subst (λ met. Asks met asked) (named_rows _ _ _ _ _ c.in-Some-run-default.ensures.name c.in-Some-run-default.ensures.rows) asks)

pub returns-in_err-get_str-in-Some-read-default-clause-none : goal.returns-in_err-get_str-in-Some-read-default-clause-none
returns-in_err-get_str-in-Some-read-default-clause-none c = λ none asked size asks.
    no_path asked _ (rows_of (found_of c.in-Some-read-default.given.now))
    (sym (first_value-rows (found_of c.in-Some-read-default.given.now) (codes "PATH")) ∙ sym c.in_err-get_str-in-Some-read-default.ensures)
    (subst (λ met. Asks met asked) (named_rows _ _ _ _ _ c.in-Some-read-default.ensures.name c.in-Some-read-default.ensures.rows) asks)

pub returns-in_err-get_str-in-Some-check-default-clause-none : goal.returns-in_err-get_str-in-Some-check-default-clause-none
returns-in_err-get_str-in-Some-check-default-clause-none c = λ none asked size asks.
    no_path asked _ (rows_of (found_of c.in-Some-check-default.given.now))
    (sym (first_value-rows (found_of c.in-Some-check-default.given.now) (codes "PATH")) ∙ sym c.in_err-get_str-in-Some-check-default.ensures)
    (subst (λ met. Asks met asked) (named_rows _ _ _ _ _ c.in-Some-check-default.ensures.name c.in-Some-check-default.ensures.rows) asks)
