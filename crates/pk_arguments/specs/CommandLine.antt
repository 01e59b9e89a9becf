-- What the words of a command line ask, over the definitions of `clap`: what its parse of a command
-- matches, and which kinds of error it gives.
use Rattle.std.specs.Prelude.{◌≡◌, ◌⊎◌, ℕ, List, [], Option, None, Some, true, false, codes}
use Rattle.std.specs.Str.Parse.{IsNumeral, digits_value, without_leading_plus}
use Rattle.clap.specs.Words.{App, IsAmong, Row, Rule, Text, fault_of, first_of, new_app, new_rule}
use Rattle.clap.specs.Words.{one_of, rule_of, subcommand_of, with_rule, with_subcommand}
use Rattle.clap.specs.declared.builder.arg.Arg.{Arg}
use Rattle.clap.specs.declared.builder.value_parser.ValueParser.TheVariants as parser
use Rattle.clap.specs.declared.error.kind.ErrorKind.{ErrorKind}
use Rattle.clap.specs.declared.error.kind.ErrorKind.TheVariants.{DisplayHelp, DisplayVersion}
use Rattle.pk_disk.specs.Sizes.{least_units, most_units}
use Rattle.pk_arguments.specs.declared.asked.Asked.{Asked}
use Rattle.pk_arguments.specs.declared.asked.Asked.TheVariants.{Check, Create, Grow, Read, Run}

-- the path, which each command takes
abbrev pub path_rule : Rule
path_rule = record (new_rule (codes "PATH")) { required = true }

-- the number of units, within the range of a store's
abbrev pub units_rule : Rule
units_rule = record (new_rule (codes "units")) {
  long = Some (codes "units");
  value_names = 1;
  required = true;
  parser = Some (parser.Unsigned least_units most_units);
}

abbrev pub create_app : App
create_app = with_rule (with_rule (new_app (codes "create")) path_rule) units_rule

abbrev pub grow_app : App
grow_app = with_rule (with_rule (new_app (codes "grow")) path_rule) units_rule

abbrev pub run_app : App
run_app = with_rule (new_app (codes "run")) path_rule

abbrev pub read_app : App
read_app = with_rule (new_app (codes "read")) path_rule

abbrev pub check_app : App
check_app = with_rule (new_app (codes "check")) path_rule

-- it has a version; a command is required, and where nothing is given help is told
abbrev pub bare_app : App
bare_app =
    let plain = new_app (codes "pk_find") in
    record plain {
      top = record plain.top {
        has_version = true;
        subcommand_required = true;
        arg_required_else_help = true;
      };
    }

-- WHAT THE PROGRAM'S COMMAND LINE MAY SAY
abbrev pub pk_find_app : App
pk_find_app =
    with_subcommand (with_subcommand
    (with_subcommand (with_subcommand (with_subcommand bare_app create_app.top) grow_app.top)
    run_app.top) read_app.top) check_app.top

-- an argument that reads so, of one command alone
abbrev pub IsArg : Rule → Arg → Type 0
IsArg rule a = (rule_of a ≡ rule) × (a.global ≡ false)

-- the number that a text writes
abbrev pub number_in : Text → ℕ
number_in text = digits_value 10 (without_leading_plus text)

-- the text writes a number of units
abbrev pub IsCount : Text → ℕ → Type 0
IsCount text units = IsNumeral 10 (without_leading_plus text) × (units ≡ number_in text)

-- a command and its matches ask this
abbrev pub Asks : Option (Text × List Row) → Asked → Type 0
Asks None asked = ⊥
Asks (Some (name, rows)) (Create path units) = (name ≡ codes "create")
    × (first_of (codes "PATH") rows ≡ Some path.now)
    × ((text : Text) × (one_of (codes "units") rows ≡ Some text) × IsCount text units)
Asks (Some (name, rows)) (Grow path units) = (name ≡ codes "grow")
    × (first_of (codes "PATH") rows ≡ Some path.now)
    × ((text : Text) × (one_of (codes "units") rows ≡ Some text) × IsCount text units)
Asks (Some (name, rows)) (Run path) = (name ≡ codes "run")
    × (first_of (codes "PATH") rows ≡ Some path.now)
Asks (Some (name, rows)) (Read path) = (name ≡ codes "read")
    × (first_of (codes "PATH") rows ≡ Some path.now)
Asks (Some (name, rows)) (Check path) = (name ≡ codes "check")
    × (first_of (codes "PATH") rows ≡ Some path.now)

-- THE WORDS ASK THIS: they are not refused, and the command that they name has these matches.
abbrev pub WordsAsk : List Text → Asked → Type 0
WordsAsk words asked =
    (fault_of pk_find_app words ≡ []) × Asks (subcommand_of pk_find_app words) asked

-- this kind of error is no fault: a text that was asked for
abbrev pub IsHelp : ErrorKind → Type 0
IsHelp kind = (kind ≡ DisplayHelp) ⊎ (kind ≡ DisplayVersion)

-- THE WORDS ASK FOR HELP
abbrev pub WordsAskHelp : List Text → Type 0
WordsAskHelp words = (kind : ErrorKind) × IsAmong kind (fault_of pk_find_app words) × IsHelp kind

-- THE WORDS ARE REFUSED
abbrev pub AreRefused : List Text → Type 0
AreRefused words =
    (kind : ErrorKind) × IsAmong kind (fault_of pk_find_app words) × (IsHelp kind → ⊥)
