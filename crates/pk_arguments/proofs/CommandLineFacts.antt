-- What the definitions of the command line say of some words.
use Rattle.std.proofs.Common.{◌≡◌, refl, codes, List, [], ◌∷◌, Option, Some, option_map}
use Rattle.clap.specs.Words.{Row, Text, fault_of, first_of, one_of, subcommand_of}
use Rattle.clap.specs.declared.error.kind.ErrorKind.TheVariants.{DisplayHelp, DisplayVersion, MissingRequiredArgument, ValueValidation}
use Rattle.clap.proofs.OnLiterals.{clap_on_literals}
use Rattle.pk_arguments.specs.CommandLine.{number_in, pk_find_app}

abbrev created : List Text
created = codes "pk_find" ∷ codes "create" ∷ codes "s" ∷ codes "--units" ∷ codes "64" ∷ []

-- the command's name and its path
abbrev path_in : Option (Text × List Row) → Option (Text × Option Text)
path_in = option_map {U = Text × Option Text} (λ p. (p.0, first_of (codes "PATH") p.1))

creation_is_taken : fault_of pk_find_app created ≡ []
unfolding clap_on_literals
creation_is_taken = refl

creation_has_its_path :
    path_in (subcommand_of pk_find_app created) ≡ Some (codes "create", Some (codes "s"))
unfolding clap_on_literals
creation_has_its_path = refl

creation_has_its_units :
    option_map (λ p. one_of (codes "units") p.1) (subcommand_of pk_find_app created) ≡ Some (Some (codes "64"))
unfolding clap_on_literals
creation_has_its_units = refl

number_is_read : number_in (codes "64") ≡ 64
number_is_read = refl

session_has_its_path :
    path_in (subcommand_of pk_find_app (codes "pk_find" ∷ codes "run" ∷ codes "s" ∷ []))
    ≡ Some (codes "run", Some (codes "s"))
unfolding clap_on_literals
session_has_its_path = refl

reading_has_its_path :
    path_in (subcommand_of pk_find_app (codes "pk_find" ∷ codes "read" ∷ codes "s" ∷ []))
    ≡ Some (codes "read", Some (codes "s"))
unfolding clap_on_literals
reading_has_its_path = refl

growth_has_its_units :
    option_map (λ p. one_of (codes "units") p.1) (subcommand_of pk_find_app (codes "pk_find" ∷ codes "grow" ∷ codes "s" ∷ codes "--units" ∷ codes "65" ∷ [])) ≡ Some (Some (codes "65"))
unfolding clap_on_literals
growth_has_its_units = refl

check_has_its_path :
    path_in (subcommand_of pk_find_app (codes "pk_find" ∷ codes "check" ∷ codes "s" ∷ []))
    ≡ Some (codes "check", Some (codes "s"))
unfolding clap_on_literals
check_has_its_path = refl

few_units_are_refused :
    fault_of pk_find_app (codes "pk_find" ∷ codes "create" ∷ codes "s" ∷ codes "--units" ∷ codes "63" ∷ [])
    ≡ ValueValidation ∷ []
unfolding clap_on_literals
few_units_are_refused = refl

units_are_required :
    fault_of pk_find_app (codes "pk_find" ∷ codes "create" ∷ codes "s" ∷ []) ≡ MissingRequiredArgument ∷ []
unfolding clap_on_literals
units_are_required = refl

help_is_told : fault_of pk_find_app (codes "pk_find" ∷ codes "--help" ∷ []) ≡ DisplayHelp ∷ []
unfolding clap_on_literals
help_is_told = refl

version_is_told : fault_of pk_find_app (codes "pk_find" ∷ codes "--version" ∷ []) ≡ DisplayVersion ∷ []
unfolding clap_on_literals
version_is_told = refl
